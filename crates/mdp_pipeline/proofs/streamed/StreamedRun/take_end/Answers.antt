use Rattle.std.proofs.lemmas.Result.{IfErr-weaker, on_ok_weaker}
use Rattle.mdp_pipeline.proofs.StreamedText.{end_stops, end_taken}
use Rattle.mdp_pipeline.proofs.streamed.StreamedRun.take_end.Goals as goal

pub returns-clause-taken : goal.returns-clause-taken
returns-clause-taken g c = on_ok_weaker c.end.result (λ taken. end_taken c.args.self.now (record { cutter = c.args.self.now.cutter; lines = c.end.new.taker }) taken) c.end.ensures.taken

pub returns-clause-refused : goal.returns-clause-refused
returns-clause-refused g c = IfErr-weaker c.end.result _ _ (λ fault stop. end_stops c.args.self.now (record { cutter = c.args.self.now.cutter; lines = c.end.new.taker }) fault stop) c.end.ensures.refused
