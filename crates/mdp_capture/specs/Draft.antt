-- What a capture that is being read holds so far.
use Rattle.std.specs.Prelude.{◌≡◌, ◌++◌, ◌∷◌, ℕ, List, Err}
use Rattle.mdp_capture.specs.Capture.{CaptureContent, IfRefused, RefusedLine, add_line, add_lines, no_capture}
use Rattle.mdp_capture.specs.Line.{LineContent}
use Rattle.mdp_capture.specs.declared.fault.CaptureFault.{CaptureFault}
use Rattle.mdp_capture.specs.declared.draft.Draft.{Draft}

-- what its lines so far say
abbrev pub capture_so_far : {A : Type 0} → Draft A → CaptureContent
capture_so_far draft = record {
  instruments = draft.instruments;
  a = draft.a.items;
  b = draft.b.items;
  s = draft.s.items;
  skipped = draft.skipped.items;
}

-- a draft holds these lines: whatever lines follow, they come to what those come to from here
abbrev pub HoldsLines : {A : Type 0} → Draft A → List (List ℕ) → Type 0
HoldsLines draft before = (rest : List (List ℕ)) →
    add_lines 1 (before ++ rest) no_capture ≡ add_lines draft.line rest (capture_so_far draft)

-- a draft has taken in these lines after what it held, and is the other now
abbrev pub TakesTexts : {A : Type 0} → Draft A → List (List ℕ) → Draft A → Type 0
TakesTexts old front new = (rest : List (List ℕ)) →
    add_lines old.line (front ++ rest) (capture_so_far old) ≡ add_lines new.line rest (capture_so_far new)

-- a run is refused at this line, were it the next, whatever lines follow
abbrev pub IsRefusedAt : {A : Type 0} → Draft A → List ℕ → RefusedLine → Type 0
IsRefusedAt draft text refused =
    (rest : List (List ℕ)) → add_lines draft.line (text ∷ rest) (capture_so_far draft) ≡ Err refused

-- a draft did not take in a line: a refusal is that of the line, and leaves what the draft holds
abbrev pub LeavesOut : {A : Type 0} → Draft A → LineContent → Draft A → CaptureFault → Type 0
LeavesOut old content new fault = IfRefused fault (λ refused.
    (add_line old.line content (capture_so_far old) ≡ Err refused)
    × (capture_so_far new ≡ capture_so_far old) × (new.line ≡ old.line))
