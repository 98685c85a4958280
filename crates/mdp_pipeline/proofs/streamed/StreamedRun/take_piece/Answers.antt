use Rattle.std.proofs.lemmas.Result.{IfErr-weaker, on_ok_weaker}
use Rattle.mdp_pipeline.proofs.StreamedText.{piece_stops, piece_taken}
use Rattle.mdp_pipeline.proofs.streamed.StreamedRun.take_piece.Goals as goal

pub returns-clause-taken : goal.returns-clause-taken
returns-clause-taken g c = on_ok_weaker c.take_piece.result (λ cut. piece_taken c.args.self.now (record { cutter = c.take_piece.new.self; lines = c.take_piece.new.taker }) c.args.piece.now cut) c.take_piece.ensures.taken

pub returns-clause-refused : goal.returns-clause-refused
returns-clause-refused g c = IfErr-weaker c.take_piece.result _ _ (λ fault stop. piece_stops c.args.self.now (record { cutter = c.take_piece.new.self; lines = c.take_piece.new.taker }) c.args.piece.now fault stop) c.take_piece.ensures.refused
