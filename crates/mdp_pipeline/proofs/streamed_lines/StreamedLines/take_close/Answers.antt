use Rattle.std.proofs.Common.{ℕ, Some, refl, subst}
use Rattle.std.proofs.lemmas.Result.{on_ok_weaker}
use Rattle.mdp_capture.specs.Record.{Close}
use Rattle.mdp_templates.specs.declared.feed.Feed.TheVariants as feeds
use Rattle.mdp_pipeline.specs.Running.{TakesOn}
use Rattle.mdp_pipeline.proofs.LinesBehind.{close_run, close_unrun}
use Rattle.mdp_pipeline.proofs.streamed_lines.StreamedLines.take_close.Goals as goal

pub returns-in_default-clause-taken : goal.returns-in_default-clause-taken
returns-in_default-clause-taken g c = close_unrun c.args.self.now c.begin.new.self c.in_ok-begin.ensures.begins c.in_default.is

pub returns-clause-taken : goal.returns-clause-taken
returns-clause-taken g c =
    let mid = c.begin.new.self in
    let left = c.take_close.new.self in
    on_ok_weaker c.take_close.result (λ takes.
    close_run c.args.self.now mid (record mid { run = Some left }) c.in-Some.run' left c.in_ok-begin.ensures.begins refl c.in-Some.is refl
    (subst (λ (n : ℕ). TakesOn feeds.S n Close c.in-Some.run' left) c.begin.ensures.line takes) refl) c.take_close.ensures
