-- A text is refused at the first line that refuses the run, and has one answer.
use Rattle.std.proofs.Common.{◌≡◌, ℕ, inl, inr, Bool, cond, List, length, Result, Ok, Err, refl, sym, ap, ◌∙◌, subst, arith}
use Rattle.std.specs.Prelude.{◌==◌}
use Rattle.std.specs.List.{flat_map}
use Rattle.std.specs.Str.Lines.{lines}
use Rattle.std.proofs.lemmas.Bool.{cases_Bool, cond-true, eqb-true, eq-eqb}
use Rattle.std.proofs.lemmas.List.{nil_from_length}
use Rattle.std.proofs.lemmas.Option.{slice_get_within}
use Rattle.mdp_capture.specs.Capture.{CaptureContent, RefusedLine, add_lines, capture_of, needs_instrument, no_capture}
use Rattle.mdp_capture.specs.Fronts.{IsFrontOf, front_of}
use Rattle.mdp_capture.specs.Fronts.IsFrontOf.{of_all, before_first}
use Rattle.mdp_capture.specs.Lines.{Brings, NumberedLine, instruments_of, numbered_lines}
use Rattle.mdp_capture.specs.Refused.{HasOneAnswer, IsAnswer, IsFirstRefused, IsRefusedCapture}
use Rattle.mdp_capture.specs.Refused.IsRefusedCapture.{at_line, at_end}
use Rattle.mdp_capture.specs.declared.fault.CaptureRefusal.{CaptureRefusal}
use Rattle.mdp_capture.specs.declared.fault.CaptureRefusal.TheVariants.{NoInstrument}
use Rattle.mdp_capture.proofs.Bringing.{brought_by, holds_its_lines, some_instrument}
use Rattle.mdp_capture.proofs.Holding.{is_not_refused}
use Rattle.mdp_capture.proofs.Stops.{Stops, first_alone, listed_some, stops}
use Rattle.mdp_capture.proofs.Stops.Stops.{whole, stopped}

abbrev Answer : Type 0
Answer = Result CaptureContent RefusedLine

-- ---- from the answer to the lines

-- a text none of whose lines refuses the run is refused at its end or not at all
refused_at_end : (text : List ℕ) (refused : RefusedLine) → needs_instrument (Ok (brought_by (numbered_lines text))) ≡ Err refused → IsRefusedCapture text refused.line refused.refusal
refused_at_end text refused is =
    let listed = flat_map instruments_of (numbered_lines text) in
    let none : Answer = Err (record { line = 0; refusal = NoInstrument }) in
    let P : Bool → Type 0 = λ b. cond b none (Ok (brought_by (numbered_lines text))) ≡ Err refused in
    elim (cases_Bool (length listed == 0)) [
      | inl empty ↦
          let same : none ≡ Err refused = subst P empty is in
          at_end (nil_from_length listed (eqb-true (length listed) 0 empty)) (cc) (cc)
      | inr some ↦ let bad : (let x : Answer = Ok (brought_by (numbered_lines text)) in x) ≡ Err refused = subst P some is in absurd (cc)
    ]

refused_as_said : (text : List ℕ) (refused : RefusedLine) (result : Answer) (front : CaptureContent) → Stops (numbered_lines text) result front → needs_instrument result ≡ Err refused → IsRefusedCapture text refused.line refused.refusal
refused_as_said text refused result front (whole is brings none) answer =
    refused_at_end text refused (ap needs_instrument (sym is) ∙ answer)
refused_as_said text refused result front (stopped stop is first brings) answer =
    let same : (let x : Answer = Err stop in x) ≡ Err refused = ap needs_instrument (sym is) ∙ answer in
    let one : stop ≡ refused = cc in
    at_line (subst (λ (r : RefusedLine). IsFirstRefused (numbered_lines text) r.line r.refusal) one first)

pub refused_by_lines : (text : List ℕ) (refused : RefusedLine) → capture_of text ≡ Err refused → IsRefusedCapture text refused.line refused.refusal
refused_by_lines text refused is = refused_as_said text refused (add_lines 1 (lines text) no_capture) (front_of text) (stops text) is

-- ---- and from the lines to the answer

abbrev refused_on : ℕ → CaptureRefusal → Answer
refused_on line refusal = Err (record { line = line; refusal = refusal })

same_refused : (n m : ℕ) (r s : CaptureRefusal) → n ≡ m → r ≡ s → refused_on n r ≡ refused_on m s
same_refused n m r s line refusal = ap (λ (k : ℕ). refused_on k r) line ∙ ap (refused_on m) refusal

is_refused : (text : List ℕ) (refused : RefusedLine) (result : Answer) (front : CaptureContent) → Stops (numbered_lines text) result front → IsRefusedCapture text refused.line refused.refusal → needs_instrument result ≡ Err refused
is_refused text refused result front (whole is brings none) (at_line first) =
    absurd (none first.place refused.line refused.refusal (slice_get_within _ _ _ first.refuses.line) first.refuses)
is_refused text refused result front (whole is brings none) (at_end empty line refusal) =
    let listed = flat_map instruments_of (numbered_lines text) in
    ap needs_instrument is
    ∙ cond-true (length listed == 0) (refused_on 0 NoInstrument) (Ok (brought_by (numbered_lines text))) (eq-eqb (length listed) 0 (ap length empty))
    ∙ same_refused 0 refused.line NoInstrument refused.refusal (sym line) (sym refusal)
is_refused text refused result front (stopped stop is first brings) (at_line other) =
    let one = first_alone (numbered_lines text) stop.line refused.line stop.refusal refused.refusal first other in
    ap needs_instrument is ∙ same_refused stop.line refused.line stop.refusal refused.refusal one.0 one.1
is_refused text refused result front (stopped stop is first brings) (at_end empty line refusal) =
    absurd (omega (arith, ap length empty, listed_some (numbered_lines text) first.place stop.line first.refuses.instrument first.refuses.line))

pub refused_in_reading : (text : List ℕ) (refused : RefusedLine) → IsRefusedCapture text refused.line refused.refusal → capture_of text ≡ Err refused
refused_in_reading text refused is = is_refused text refused (add_lines 1 (lines text) no_capture) (front_of text) (stops text) is

-- ---- one answer

answered : (text : List ℕ) (answer : Answer) → capture_of text ≡ answer → IsAnswer text answer
answered text (Ok capture) is = holds_its_lines text capture is
answered text (Err refused) is = refused_by_lines text refused is

answers : (text : List ℕ) (answer : Answer) → IsAnswer text answer → capture_of text ≡ answer
answers text (Ok capture) is = is_not_refused text capture is
answers text (Err refused) is = refused_in_reading text refused is

pub one_answer : (text : List ℕ) → HasOneAnswer text
one_answer text = (capture_of text, answered text (capture_of text) refl, λ other is. sym (answers text other is))

-- ---- the front

brought_whole : (lines : List NumberedLine) (front : CaptureContent) → front ≡ brought_by lines → Brings lines front
brought_whole lines front is = record {
  instruments = ap (λ (c : CaptureContent). c.instruments) is;
  a = ap (λ (c : CaptureContent). c.a) is;
  b = ap (λ (c : CaptureContent). c.b) is;
  s = ap (λ (c : CaptureContent). c.s) is;
  skipped = ap (λ (c : CaptureContent). c.skipped) is;
}

front_there : (text : List ℕ) (result : Answer) (front : CaptureContent) → Stops (numbered_lines text) result front → IsFrontOf text front
front_there text result front (whole is brings none) = of_all none (brought_whole _ front brings)
front_there text result front (stopped stop is first brings) = before_first stop.line stop.refusal first (brought_whole _ front brings)

pub front_holds : (text : List ℕ) → IsFrontOf text (front_of text)
front_holds text = front_there text (add_lines 1 (lines text) no_capture) (front_of text) (stops text)

front_whole : (lines : List NumberedLine) (result : Answer) (front capture : CaptureContent) → Stops lines result front → result ≡ Ok capture → front ≡ capture
front_whole lines result front capture (whole is brings none) taken =
    let same : (let x : Answer = Ok (brought_by lines) in x) ≡ Ok capture = sym is ∙ taken in
    let one : brought_by lines ≡ capture = cc in
    brings ∙ one
front_whole lines result front capture (stopped stop is first brings) taken =
    let bad : (let x : Answer = Err stop in x) ≡ Ok capture = sym is ∙ taken in absurd (cc)

pub wholes : (text : List ℕ) (capture : CaptureContent) → capture_of text ≡ Ok capture → front_of text ≡ capture
wholes text capture is =
    front_whole (numbered_lines text) (add_lines 1 (lines text) no_capture) (front_of text) capture (stops text)
    (some_instrument (add_lines 1 (lines text) no_capture) capture is).same
