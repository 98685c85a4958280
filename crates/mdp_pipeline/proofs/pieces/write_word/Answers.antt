use Rattle.std.proofs.Common.{◌++◌, List, ℕ, subst}
use Rattle.std.specs.Prelude.{IfErr, OnOk}
use Rattle.mdp_pipeline.specs.RefusalTexts.{word_text}
use Rattle.mdp_pipeline.specs.Sending.{SendsFront}
use Rattle.mdp_pipeline.proofs.Sending.{sends_nothing}
use Rattle.mdp_pipeline.proofs.pieces.write_word.Goals as goal

-- there was no memory for the line
pub returns-in_default-clause-begins : goal.returns-in_default-clause-begins
returns-in_default-clause-begins g c =
    let text = c.args.held.now.items ++ word_text c.args.word.now in
    (text, sends_nothing text (g.W.CountedWrite.taken c.args.writer.now))

pub returns-clause-sends : goal.returns-clause-sends
returns-clause-sends g c =
    let start = g.W.CountedWrite.taken c.args.writer.now in
    let taken = g.W.CountedWrite.taken c.hand_on_piece.new.writer in
    subst (λ (t : List ℕ). OnOk c.hand_on_piece.result (SendsFront t start taken c.hand_on_piece.new.held.items)) c.in-Ok.ensures.ok c.hand_on_piece.ensures.sends

pub returns-clause-begins : goal.returns-clause-begins
returns-clause-begins g c =
    let start = g.W.CountedWrite.taken c.args.writer.now in
    let taken = g.W.CountedWrite.taken c.hand_on_piece.new.writer in
    subst (λ (t : List ℕ). IfErr c.hand_on_piece.result (λ _. (rest : List ℕ) × SendsFront t start taken rest)) c.in-Ok.ensures.ok c.hand_on_piece.ensures.begins
