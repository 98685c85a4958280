use Rattle.std.proofs.Common.{refl}
use Rattle.mdp_recording.proofs.Recording.{piece_taken}
use Rattle.mdp_recording.proofs.run.RecordedRun.take_piece.Goals as goal

pub returns-in-Ok : goal.returns-in-Ok
returns-in-Ok g c =
    piece_taken c.args.piece.now c.args.self.now _ refl c.in-Ok.ensures.read (λ some. let same = c.take_piece.ensures.stopped some in (same.0, same.1))
