-- A text that is read piece by piece, and line by line.
use Rattle.std.proofs.Common.{◌≡◌, ℕ, ◌+◌, ◌-◌, ◌<◌, false, eqb, List, [], ◌∷◌, ◌++◌, Some, Result, length, take, drop, refl, sym, ap, ◌∙◌, subst, arith, append_assoc, length-append}
use Rattle.std.specs.Str.Lines.{lines, lines_of_parts, strip_carriage_return}
use Rattle.std.specs.List.{slice_split}
use Rattle.std.proofs.lemmas.Bool.{cond-false, ne_eqb, cases_lt}
use Rattle.std.proofs.Common.{inl, inr}
use Rattle.std.proofs.lemmas.List.{get_or_append_left, get_or-append_right}
use Rattle.std.proofs.lemmas.List.Splits.{length-slice_split, slice_split_none}
use Rattle.memchr.specs.Find.{IsFirstByte, is_byte}
use Rattle.mdp_capture.specs.Capture.{CaptureContent, RefusedLine, and_then, needs_instrument, IsTextFaultOf}
use Rattle.mdp_capture.specs.declared.fault.CaptureFault.{CaptureFault}
use Rattle.mdp_capture.specs.declared.fault.CaptureFault.TheVariants as faults
use Rattle.mdp_capture.proofs.Splits.{IsFreeOf, parts_at, split_there}

pub free_append : (c : ℕ) (front rest : List ℕ) → IsFreeOf c front → IsFreeOf c rest → IsFreeOf c (front ++ rest)
free_append c front rest free free' i d below =
    elim (cases_lt i (length front)) [
      | inl low ↦ rw (get_or_append_left front rest d i low) (free i d low)
      | inr high ↦ let within : i - length front < length rest = omega (arith, length-append front rest) in
          rw (get_or-append_right front rest (length front) i d refl high) (free' (i - length front) d within)
    ]

-- a part before more parts
part_of : (first : List ℕ) (parts : List (List ℕ)) → 0 < length parts → lines_of_parts (first ∷ parts) ≡ strip_carriage_return first ∷ lines_of_parts parts
part_of first [] some = absurd (omega arith)
part_of first (part ∷ parts) some = refl

pub lines_at : (front text : List ℕ) → IsFreeOf 10 front → lines (front ++ 10 ∷ text) ≡ strip_carriage_return front ∷ lines text
lines_at front text free =
    ap lines_of_parts (parts_at 10 front text free) ∙ part_of front (slice_split (λ byte. eqb byte 10) text) (omega (arith, length-slice_split (λ byte. eqb byte 10) text))

pub lines_last : (front : List ℕ) → IsFreeOf 10 front → 0 < length front → lines front ≡ front ∷ []
lines_last front free some =
    let empty : eqb (length front) 0 ≡ false = ne_eqb (length front) 0 (λ e. omega arith) in
    ap lines_of_parts (slice_split_none (λ byte. eqb byte 10) front free) ∙ cond-false (eqb (length front) 0) [] (front ∷ []) empty

pub fault_stays : (r : Result CaptureContent RefusedLine) (next : CaptureContent → Result CaptureContent RefusedLine) (fault : CaptureFault) → IsTextFaultOf r fault → IsTextFaultOf (and_then r next) fault
fault_stays r next (faults.Refused line refusal) is = ap (λ x. and_then x next) is
fault_stays r next faults.Memory is = tt
fault_stays r next faults.Input is = is

pub fault_whole : (r : Result CaptureContent RefusedLine) (fault : CaptureFault) → IsTextFaultOf r fault → IsTextFaultOf (needs_instrument r) fault
fault_whole r (faults.Refused line refusal) is = ap needs_instrument is
fault_whole r faults.Memory is = tt
fault_whole r faults.Input is = is

pub same_fault : (r s : Result CaptureContent RefusedLine) (fault : CaptureFault) → r ≡ s → IsTextFaultOf s fault → IsTextFaultOf r fault
same_fault r s fault e is = let P : Result CaptureContent RefusedLine → Type 0 = λ x. IsTextFaultOf x fault in subst P (sym e) is

-- a piece is cut at its first line feed
pub cut_there : (piece text : List ℕ) (k : ℕ) → IsFirstByte (is_byte 10) piece (Some k) → piece ++ text ≡ take k piece ++ 10 ∷ (drop (k + 1) piece ++ text)
cut_there piece text k first =
    ap (λ bytes. bytes ++ text) (split_there 10 piece k first) ∙ append_assoc (take k piece) (10 ∷ drop (k + 1) piece) text
