use Rattle.std.proofs.Common.{◌≡◌, ◌++◌, ℕ, List, length, drop}
use Rattle.std.specs.Vec.Iter.{into_iter_items, into_iter_len}
use Rattle.mdp_capture.specs.Part.{AreReadOf, joined}
use Rattle.mdp_capture.specs.Reading.{HasRead}
use Rattle.mdp_capture.proofs.over_threads.take_parts.Given as goal

-- what was taken in and the texts that are left are all of them
abbrev pub invariant-loop-part : goal.invariant-loop-part
invariant-loop-part g l = record {
  taken : (text : List ℕ) → HasRead l.initial.reading text
      → (before : List ℕ) × HasRead l.reading before × (before ++ joined (drop l.number l.texts) ≡ text ++ joined l.texts);
  read : AreReadOf (drop l.number l.texts) (into_iter_items l.part-iterator);
  left : into_iter_len l.part-iterator ≡ length (into_iter_items l.part-iterator);
}
