use Rattle.std.proofs.Common.{◌≡◌, map, take}
use Rattle.std.specs.Prelude.{string_bytes}
use Rattle.mdp_handler.proofs.words_of.Given as goal

-- the texts so far are words
abbrev pub invariant-loop-text : goal.invariant-loop-text
invariant-loop-text l = map (λ word. word.now) l.words.items ≡ map string_bytes (take l.text-index l.texts)
