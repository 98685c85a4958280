-- What a text comes to, by the lines that were taken of it.
use Rattle.std.proofs.Common.{◌≡◌, ℕ, ◌+◌, ◌≤◌, List, [], ◌∷◌, Option, Some, None, Result, Err, refl, sym, ap, ◌∙◌, arith, inl, inr}
use Rattle.std.proofs.lemmas.Bool.{cases_lt}
use Rattle.mdp_channel.specs.Channel.{ChannelContent, HasOneAnswer, IsAnswer, IsFaultOf, IsFirstRefused, NoneRefused, channel_of, line_refusal, no_channel, refusal_at, whole, with_line}
use Rattle.mdp_channel.specs.Channel.IsAnswer.{at_line, at_end}
use Rattle.mdp_channel.specs.ChannelLine.{ChannelLine, channel_lines}
use Rattle.mdp_channel.specs.declared.fault.ChannelFault.{ChannelFault}
use Rattle.mdp_channel.specs.declared.fault.ChannelFault.TheVariants.{Line, NoInstrument, NoAddress, Memory}
use Rattle.mdp_channel.specs.declared.fault.LineRefusal.{LineRefusal}
use Rattle.mdp_channel.proofs.Fronts.{TakesFront, stops_there, takes_all, takes_more, takes_none}

pub fault_is : (text : List ℕ) (fault : ChannelFault) → IsAnswer text (Err fault) → IsFaultOf text fault
fault_is text (Line line refusal) is = is
fault_is text NoInstrument is = is
fault_is text NoAddress is = is
fault_is text Memory is = tt

-- all lines were taken
pub ended : (text : List ℕ) (count : ℕ) (channel : ChannelContent) (answer : Result ChannelContent ChannelFault) → TakesFront (channel_lines text) [] count channel → whole channel ≡ answer → IsAnswer text answer
ended text count channel answer taken is =
    let all = takes_all (channel_lines text) count channel taken in
    at_end all.0 (sym is ∙ ap whole all.1)

-- the next line is refused
pub stopped : (text : List ℕ) (left : List ChannelLine) (line : ChannelLine) (count : ℕ) (channel : ChannelContent) (refusal : LineRefusal) → TakesFront (channel_lines text) (line ∷ left) count channel
    → line_refusal channel line ≡ Some refusal → IsAnswer text (Err (Line (count + 1) refusal))
stopped text left line count channel refusal taken is = at_line count refusal (stops_there (channel_lines text) left line count channel refusal taken is) refl

-- ---- one answer

-- a text has a first line that is refused, or none
data Stop (lines : List ChannelLine) : Type 0 where
  refused : (place : ℕ) (refusal : LineRefusal) → IsFirstRefused lines place refusal → Stop lines
  none : NoneRefused lines → Stop lines

stop_next : (lines left : List ChannelLine) (line : ChannelLine) (count : ℕ) (channel : ChannelContent) (refusal : Option LineRefusal) → TakesFront lines (line ∷ left) count channel
    → line_refusal channel line ≡ refusal → (line_refusal channel line ≡ None → Stop lines) → Stop lines
stop_next lines left line count channel None taken is later = later is
stop_next lines left line count channel (Some refusal) taken is later = refused count refusal (stops_there lines left line count channel refusal taken is)

stop_of : (lines left : List ChannelLine) (count : ℕ) (channel : ChannelContent) → TakesFront lines left count channel → Stop lines
stop_of lines [] count channel taken = none (takes_all lines count channel taken).0
stop_of lines (line ∷ left) count channel taken =
    stop_next lines left line count channel (line_refusal channel line) taken refl
    (λ free. stop_of lines left (count + 1) (with_line channel line) (takes_more lines left line count channel (with_line channel line) taken free refl))

answered : (text : List ℕ) → Stop (channel_lines text) → (answer : Result ChannelContent ChannelFault) × IsAnswer text answer
answered text (refused place refusal first) = (Err (Line (place + 1) refusal), at_line place refusal first refl)
answered text (none each) = (whole (channel_of (channel_lines text)), at_end each refl)

-- only one line is the first that is refused
first_place : (lines : List ChannelLine) (p q : ℕ) (r s : LineRefusal) → IsFirstRefused lines p r → IsFirstRefused lines q s → q ≤ p
first_place lines p q r s first other = elim (cases_lt p q) [
  | inl earlier ↦ let no = other.before p earlier in let is = first.refusal_is in absurd (cc)
  | inr later ↦ later
]

first_alone : (lines : List ChannelLine) (p q : ℕ) (r s : LineRefusal) → IsFirstRefused lines p r → IsFirstRefused lines q s → (p ≡ q) × (r ≡ s)
first_alone lines p q r s first other =
    let place : p ≡ q = omega (arith, first_place lines p q r s first other, first_place lines q p s r other first) in
    let both : (let x : Option LineRefusal = Some r in x) ≡ Some s = sym first.refusal_is ∙ ap (refusal_at lines) place ∙ other.refusal_is in
    (place, cc)

abbrev refused_on : ℕ → LineRefusal → Result ChannelContent ChannelFault
refused_on place refusal = Err (Line (place + 1) refusal)

same_answer : (text : List ℕ) (answer other : Result ChannelContent ChannelFault) → IsAnswer text answer → IsAnswer text other → other ≡ answer
same_answer text answer other (at_line p r first is) (at_line q s second same) =
    let one = first_alone (channel_lines text) q p s r second first in
    same ∙ ap (λ (n : ℕ). refused_on n s) one.0 ∙ ap (refused_on p) one.1 ∙ sym is
same_answer text answer other (at_line p r first is) (at_end each same) = let some = first.refusal_is in let no = each p in absurd (cc)
same_answer text answer other (at_end each is) (at_line q s second same) = let some = second.refusal_is in let no = each q in absurd (cc)
same_answer text answer other (at_end each is) (at_end again same) = same ∙ sym is

pub one_channel : (text : List ℕ) → HasOneAnswer text
one_channel text =
    let lines = channel_lines text in
    let found = answered text (stop_of lines lines 0 no_channel (takes_none lines no_channel refl)) in
    (found.0, found.1, λ other is. same_answer text found.0 other found.1 is)
