use Rattle.mdp_recording.proofs.Recording.{ends_as_recording}
use Rattle.mdp_recording.proofs.run.RecordedRun.into_ended.Goals as goal

pub returns : goal.returns
returns g c = ends_as_recording c.args.self
