use Rattle.mdp_pipeline.proofs.StreamedText.{ended_early, ended_text}
use Rattle.mdp_pipeline.proofs.ended.EndedRun.finish.Goals as goal

pub returns-clause-text : goal.returns-clause-text
returns-clause-text g c = ended_text c.args.self (g.W.CountedWrite.taken c.args.writer.now) (g.W.CountedWrite.taken c.finish.new.writer) c.finish.result c.finish.ensures.text

pub returns-clause-begins : goal.returns-clause-begins
returns-clause-begins g c = ended_early c.args.self (g.W.CountedWrite.taken c.args.writer.now) (g.W.CountedWrite.taken c.finish.new.writer) c.finish.result c.finish.ensures.begins
