use Rattle.std.proofs.Common.{List, ℕ, ap, sym}
use Rattle.std.specs.Str.Lines.{lines}
use Rattle.std.specs.Prelude.{[], ◌++◌}
use Rattle.mdp_pipeline.proofs.streamed.StreamedRun.new.Goals as goal

pub returns : goal.returns
returns g c = record {
  front = [];
  cuts = λ more. ap (λ (t : List ℕ). lines (t ++ more)) (sym c.new.ensures);
  stands = c.new-2.ensures;
}
