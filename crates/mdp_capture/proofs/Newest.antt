-- The record that was appended last.
use Rattle.std.proofs.Common.{◌≡◌, List, [], ◌∷◌, ◌++◌, length, Some, Ok, Result, refl}
use Rattle.std.specs.List.{slice_get}
use Rattle.mdp_capture.specs.Capture.{CaptureContent, RefusedLine}

last_there : {X : Type 0} (xs : List X) (x : X) → slice_get (xs ++ x ∷ []) (length xs) ≡ Some x
last_there [] x = refl
last_there (y ∷ xs) x = last_there xs x

same_capture : (old new : CaptureContent) → (let x : Result CaptureContent RefusedLine = Ok old in x) ≡ Ok new → old ≡ new
same_capture old new is = cc
