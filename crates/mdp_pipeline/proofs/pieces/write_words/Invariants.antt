use Rattle.std.proofs.Common.{◌≡◌, ◌++◌, drop}
use Rattle.std.specs.List.{flat_map}
use Rattle.mdp_pipeline.specs.RefusalTexts.{word_text}
use Rattle.mdp_pipeline.specs.Sending.{SendsFront}
use Rattle.mdp_pipeline.proofs.pieces.write_words.Given as goal

-- of the whole a front went out, and what is held and the lines of the words that are left are left
abbrev pub invariant-loop-word : goal.invariant-loop-word
invariant-loop-word g l = record {
  sends : SendsFront (l.initial.held.items ++ flat_map word_text l.words) (g.W.CountedWrite.taken l.initial.writer) (g.W.CountedWrite.taken l.writer) (l.held.items ++ flat_map word_text (drop l.word-index l.words));
  failed : g.W.CountedWrite.failed l.writer ≡ g.W.CountedWrite.failed l.initial.writer;
}
