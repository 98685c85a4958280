use Rattle.std.proofs.Common.{Some, ap, refl}
use Rattle.mdp_engine.specs.Engine.{View}
use Rattle.mdp_pipeline.specs.declared.progress.Run.{Run}
use Rattle.mdp_pipeline.specs.Streamed.{LetsTextGo}
use Rattle.mdp_pipeline.proofs.Going.{sent_on}
use Rattle.mdp_pipeline.proofs.streamed_lines.clear_text.Goals as goal

pub returns-in-Some : goal.returns-in-Some
returns-in-Some g c =
    let old = c.in-Some.run' in
    let left : Run g.row.A.Denot = record old { handler = c.clear_lines.new.self } in
    let lets : LetsTextGo (Some old) (Some left) = (
      left,
      refl,
      record {
        stands = λ listed events before. sent_on listed events before old.handler c.clear_lines.new.self c.clear_lines.ensures.stands (ap (λ (v : View). v.keeps_lines) c.clear_lines.ensures.cleared);
        channel = ap (λ (v : View). v.arbiter.channel) c.clear_lines.ensures.cleared;
        refusals = refl;
        none = ap (λ (v : View). v.held) c.clear_lines.ensures.cleared;
      },
    ) in
    rw c.in-Some.is lets
