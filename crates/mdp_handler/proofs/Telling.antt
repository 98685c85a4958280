-- What is told, one text behind another.
use Rattle.std.proofs.Common.{◌≡◌, ◌<◌, ◌+◌, ◌-◌, ℕ, zero, suc, List, [], ◌∷◌, ◌++◌, Result, Ok, Err, take, drop, length, get_or, refl, sym, ap, ◌∙◌, subst, append_assoc, append-nil, arith}
use Rattle.std.specs.Prelude.{MatchResult}
use Rattle.std.proofs.lemmas.Grind.{flat_map-append}
use Rattle.std.proofs.lemmas.List.{take-append-drop, take_more}
use Rattle.mdp_capture.specs.declared.skip.SkippedLine.{SkippedLine}
use Rattle.mdp_pipeline.specs.declared.note.Note.{Note}
use Rattle.mdp_handler.specs.declared.faults.Place.{Place}
use Rattle.mdp_handler.specs.Faults.{LeavesOut, Tells, note_line, note_lines, skipped_line, skipped_lines}

-- where all is sent, nothing is left out, however much may be
pub all_is_sent : (most : ℕ) (text : List ℕ) → LeavesOut most text text
all_is_sent zero text = refl
all_is_sent (suc most) text = ([], [], text, text, refl, refl, all_is_sent most text)

-- behind a front that is sent
behind_front : (most : ℕ) (front text sent : List ℕ) → LeavesOut most text sent → LeavesOut most (front ++ text) (front ++ sent)
behind_front zero front text sent is = ap (λ (bytes : List ℕ). front ++ bytes) is
behind_front (suc most) front text sent (first, gap, rest, more, whole, out, left) = (
  front ++ first,
  gap,
  rest,
  more,
  ap (λ (bytes : List ℕ). front ++ bytes) whole ∙ sym (append_assoc front first (gap ++ rest)),
  ap (λ (bytes : List ℕ). front ++ bytes) out ∙ sym (append_assoc front first more),
  left,
)

-- of two texts as many stretches are left out as of both
pub both_leave_out : (m n k : ℕ) (text sent text' sent' : List ℕ) → k ≡ m + n → LeavesOut m text sent → LeavesOut n text' sent' → LeavesOut k (text ++ text') (sent ++ sent')
both_leave_out zero n k text sent text' sent' sum is left =
    let same : n ≡ k = omega (arith, sum) in
    subst (λ (most : ℕ). LeavesOut most (text ++ text') (sent ++ sent')) same (subst (λ (bytes : List ℕ). LeavesOut n (text ++ text') (bytes ++ sent')) (sym is) (behind_front n text text' sent' left))
both_leave_out (suc m) n zero text sent text' sent' sum first next = absurd (omega (arith, sum))
both_leave_out (suc m) n (suc k) text sent text' sent' sum (front, gap, rest, more, whole, out, left) next = (
  front,
  gap,
  rest ++ text',
  more ++ sent',
  ap (λ (bytes : List ℕ). bytes ++ text') whole ∙ append_assoc front (gap ++ rest) text' ∙ ap (λ (bytes : List ℕ). front ++ bytes) (append_assoc gap rest text'),
  ap (λ (bytes : List ℕ). bytes ++ sent') out ∙ append_assoc front more sent',
  both_leave_out m n k rest more text' sent' (omega (arith, sum)) left next,
)

-- nothing is told
pub tells_nothing : {W : Type 0} (failed : W → ℕ) (taken : W → List ℕ) (w : W) → Tells failed taken w w []
tells_nothing {W} failed taken w = record {
  failures = omega arith;
  told = λ few. ([], sym (append-nil (taken w)), all_is_sent (failed w - failed w) []);
}

-- one text, and then another
pub tells_both : {W : Type 0} (failed : W → ℕ) (taken : W → List ℕ) (first second third : W) (text more : List ℕ) → Tells failed taken first second text → Tells failed taken second third more → Tells failed taken first third (text ++ more)
tells_both {W} failed taken first second third text more one other = record {
  failures = omega (arith, one.failures, other.failures);
  told = λ few.
      let before = one.told (omega (arith, few, other.failures)) in
      let behind = other.told few in (
        before.0 ++ behind.0,
        behind.1 ∙ ap (λ (bytes : List ℕ). bytes ++ behind.0) before.1 ∙ append_assoc (taken first) before.0 behind.0,
        both_leave_out (failed second - failed first) (failed third - failed second) (failed third - failed first) text before.0 more behind.0
            (omega (arith, one.failures, other.failures)) before.2 behind.2,
      );
}

-- a front of a text, of which the rest is left out
cut_once : (most n : ℕ) (text : List ℕ) → most ≡ 1 → LeavesOut most text (take n text)
cut_once zero n text one = absurd (omega (arith, one))
cut_once (suc most) n text one = (
  take n text,
  drop n text,
  [],
  [],
  sym (take-append-drop n text) ∙ ap (λ (bytes : List ℕ). take n text ++ bytes) (sym (append-nil (drop n text))),
  sym (append-nil (take n text)),
  all_is_sent most [],
)

-- a text that a writer took whole, or up to its first failed write
pub tells_once : {W U E : Type 0} (failed : W → ℕ) (taken : W → List ℕ) (old new : W) (text : List ℕ) (result : Result U (ℕ × E)) → MatchResult result (λ _. taken new ≡ taken old ++ text) (λ e. taken new ≡ taken old ++ take e.0 text) → MatchResult result (λ _. failed new ≡ failed old) (λ _. failed new ≡ failed old + 1) → Tells failed taken old new text
tells_once {W} {U} {E} failed taken old new text (Ok done) took failures = record {
  failures = omega (arith, failures);
  told = λ few. (text, took, all_is_sent (failed new - failed old) text);
}
tells_once {W} {U} {E} failed taken old new text (Err e) took failures = record {
  failures = omega (arith, failures);
  told = λ few. (take e.0 text, took, cut_once (failed new - failed old) e.0 text (omega (arith, failures)));
}

-- one skipped line more
pub lines_more : (lines : List SkippedLine) (n : ℕ) (d : SkippedLine) → n < length lines → skipped_lines (take n lines) ++ skipped_line (get_or lines n d) ≡ skipped_lines (take (n + 1) lines)
lines_more lines n d below =
    ap (λ (bytes : List ℕ). skipped_lines (take n lines) ++ bytes) (sym (append-nil (skipped_line (get_or lines n d))))
    ∙ sym (flat_map-append skipped_line (take n lines) (get_or lines n d ∷ []))
    ∙ sym (ap skipped_lines (take_more lines n d below))

-- one note more
pub notes_on : (place : Place) (notes : List Note) (n : ℕ) (d : Note) → n < length notes → note_lines place (take n notes) ++ note_line place (get_or notes n d) ≡ note_lines place (take (n + 1) notes)
notes_on place notes n d below =
    ap (λ (bytes : List ℕ). note_lines place (take n notes) ++ bytes) (sym (append-nil (note_line place (get_or notes n d))))
    ∙ sym (flat_map-append (note_line place) (take n notes) (get_or notes n d ∷ []))
    ∙ sym (ap (note_lines place) (take_more notes n d below))
