use Rattle.std.proofs.Common.{ap, refl}
use Rattle.mdp_engine.specs.Engine.{View}
use Rattle.mdp_pipeline.proofs.Going.{sent_on}
use Rattle.mdp_recording.proofs.Recording.{handed_on}
use Rattle.mdp_recording.proofs.run.RecordedRun.clear.Goals as goal

pub returns : goal.returns
returns g c =
    handed_on c.args.self.now _ refl refl refl refl c.clear.ensures.items
    (record {
      stands = λ listed events before. sent_on listed events before c.args.self.now.datagrams.run.handler c.clear_lines.new.self c.clear_lines.ensures.stands (ap (λ (v : View). v.keeps_lines) c.clear_lines.ensures.cleared);
      channel = ap (λ (v : View). v.arbiter.channel) c.clear_lines.ensures.cleared;
      refusals = refl;
      none = ap (λ (v : View). v.held) c.clear_lines.ensures.cleared;
    })
