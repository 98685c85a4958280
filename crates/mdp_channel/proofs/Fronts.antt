-- Lines of which a front was taken.
use Rattle.std.proofs.Common.{◌≡◌, ℕ, ◌+◌, ◌<◌, List, [], ◌∷◌, ◌++◌, length, take, Some, None, refl, sym, ap, ◌∙◌, subst, arith, inl, inr, append_assoc, length-append}
use Rattle.std.specs.Prelude.{slice_get, option_and_then}
use Rattle.std.specs.List.{flat_map}
use Rattle.std.proofs.lemmas.Bool.{cases_lt}
use Rattle.std.proofs.lemmas.Grind.{flat_map-append}
use Rattle.std.proofs.lemmas.List.{append-nil}
use Rattle.std.proofs.lemmas.Option.{slice_get_past}
use Rattle.std.proofs.Math.Seq.{take-append_seam}
use Rattle.mdp_pcap.specs.declared.addresses.FeedAddress.{FeedAddress}
use Rattle.mdp_templates.specs.declared.instrument.Instrument.{Instrument}
use Rattle.mdp_channel.specs.Channel.{ChannelContent, IsFirstRefused, NoneRefused, addresses_of, channel_of, instruments_of, line_refusal, no_channel, refusal_at, with_line}
use Rattle.mdp_channel.specs.ChannelLine.{ChannelLine}
use Rattle.mdp_channel.specs.declared.fault.LineRefusal.{LineRefusal}

-- so many of the lines were taken, these are left, and this is the channel of those that were
pub record TakesFront (lines left : List ChannelLine) (count : ℕ) (channel : ChannelContent) : Type 0 where
  pub front : List ChannelLine
  pub whole : lines ≡ front ++ left
  pub counted : count ≡ length front
  pub is : channel ≡ channel_of front
  pub each : (place : ℕ) → place < count → refusal_at lines place ≡ None

abbrev channel : List Instrument → List FeedAddress → ChannelContent
channel instruments addresses = record { instruments = instruments; addresses = addresses }

one_more : {X : Type 0} (f : ChannelLine → List X) (front : List ChannelLine) (line : ChannelLine) → flat_map f (front ++ line ∷ []) ≡ flat_map f front ++ f line
one_more f front line = flat_map-append f front (line ∷ []) ∙ ap (λ xs. flat_map f front ++ xs) (append-nil (f line))

-- what lines say with one line more
said_more : (front : List ChannelLine) (line : ChannelLine) → channel_of (front ++ line ∷ []) ≡ with_line (channel_of front) line
said_more front line =
    ap (λ (is : List Instrument). channel is (flat_map addresses_of (front ++ line ∷ []))) (one_more instruments_of front line)
    ∙ ap (channel (flat_map instruments_of front ++ instruments_of line)) (one_more addresses_of front line)

there : (front left : List ChannelLine) (line : ChannelLine) → slice_get (front ++ line ∷ left) (length front) ≡ Some line
there [] left line = refl
there (first ∷ front) left line = there front left line

-- why the next line is refused
refused_next : (front left : List ChannelLine) (line : ChannelLine) → refusal_at (front ++ line ∷ left) (length front) ≡ line_refusal (channel_of front) line
refused_next front left line =
    ap (option_and_then (line_refusal (channel_of (take (length front) (front ++ line ∷ left))))) (there front left line)
    ∙ ap (λ (xs : List ChannelLine). line_refusal (channel_of xs) line) (take-append_seam front (line ∷ left))

at_next : (lines left : List ChannelLine) (line : ChannelLine) (count : ℕ) (channel : ChannelContent) → TakesFront lines (line ∷ left) count channel → refusal_at lines count ≡ line_refusal channel line
at_next lines left line count channel taken =
    ap (λ (xs : List ChannelLine). refusal_at xs count) taken.whole
    ∙ ap (refusal_at (taken.front ++ line ∷ left)) taken.counted
    ∙ refused_next taken.front left line
    ∙ ap (λ (c : ChannelContent). line_refusal c line) (sym taken.is)

-- no line yet
pub takes_none : (lines : List ChannelLine) (channel : ChannelContent) → channel ≡ no_channel → TakesFront lines lines 0 channel
takes_none lines channel is = record { front = []; whole = refl; counted = refl; is = is; each = λ place below. absurd (omega (arith, below)) }

-- one line more
pub takes_more : (lines left : List ChannelLine) (line : ChannelLine) (count : ℕ) (old new : ChannelContent) → TakesFront lines (line ∷ left) count old
    → line_refusal old line ≡ None → new ≡ with_line old line → TakesFront lines left (count + 1) new
takes_more lines left line count old new taken none is = record {
  front = taken.front ++ line ∷ [];
  whole = taken.whole ∙ sym (append_assoc taken.front (line ∷ []) left);
  counted = let size = length-append taken.front (line ∷ []) in omega (arith, size, taken.counted);
  is = is ∙ ap (λ (c : ChannelContent). with_line c line) taken.is ∙ sym (said_more taken.front line);
  each = λ place below. elim (cases_lt place count) [
    | inl earlier ↦ taken.each place earlier
    | inr last ↦ let same : count ≡ place = omega (arith, below, last) in subst (λ (n : ℕ). refusal_at lines n ≡ None) same (at_next lines left line count old taken ∙ none)
  ];
}

-- no line left
pub takes_all : (lines : List ChannelLine) (count : ℕ) (channel : ChannelContent) → TakesFront lines [] count channel → NoneRefused lines × (channel ≡ channel_of lines)
takes_all lines count channel taken =
    let all : lines ≡ taken.front = taken.whole ∙ append-nil taken.front in (
      λ place. elim (cases_lt place count) [
        | inl earlier ↦ taken.each place earlier
        | inr later ↦ ap (option_and_then (line_refusal (channel_of (take place lines)))) (slice_get_past lines place (omega (arith, later, taken.counted, ap length all)))
      ],
      taken.is ∙ ap channel_of (sym all),
    )

-- the next line is refused
pub stops_there : (lines left : List ChannelLine) (line : ChannelLine) (count : ℕ) (channel : ChannelContent) (refusal : LineRefusal) → TakesFront lines (line ∷ left) count channel
    → line_refusal channel line ≡ Some refusal → IsFirstRefused lines count refusal
stops_there lines left line count channel refusal taken is = record { refusal_is = at_next lines left line count channel taken ∙ is; before = taken.each }
