use Rattle.std.proofs.Common.{◌≤◌, ◌++◌, List, length, map, sym, ap, ◌∙◌, append-nil, arith}
use Rattle.mdp_desks.specs.Reports.{Report}
use Rattle.mdp_reports.specs.Rounds.{text_from, rounds_in}
use Rattle.mdp_reports.specs.FromAnswers.{told_in_answer}
use Rattle.mdp_reports.specs.BoardSteps.{steps_in}
use Rattle.mdp_reports.specs.Taking.{View, first_list, kept_after_rounds, rounds_left}
use Rattle.mdp_reports.proofs.Rounds.{took, stepped, none_left, all_left, seen_as}
use Rattle.mdp_reports.proofs.collector.Collector.take.Goals as goal

pub loop-n-preserved : goal.loop-n-preserved
loop-n-preserved g c =
    let lists = map told_in_answer c.args.round.now in
    let next = took c.loop-n.n lists c.in-Some.heading c.deref_mut.result.now c.loop-n.self c.put_moment.new.self c.loop-n.out.items c.put_moment.new.out.items (sym c.in-Some.ensures) (c.deref_mut.ensures.value ∙ c.in_ok-fill.ensures) c.in_ok-put_moment.ensures.text c.in_ok-put_moment.ensures.kept in
    record {
      listed = ap (λ (v : View). v.listed) c.in_ok-put_moment.ensures.kept ∙ c.loop-n.invariant.listed;
      text = next.0 ∙ c.loop-n.invariant.text;
      steps = stepped c.loop-n.n lists c.in-Some.heading c.deref_mut.result.now c.loop-n.steps c.put_moment.new.steps (sym c.in-Some.ensures) (c.deref_mut.ensures.value ∙ c.in_ok-fill.ensures) c.in_ok-put_moment.ensures.steps ∙ c.loop-n.invariant.steps;
      kept = next.1 ∙ c.loop-n.invariant.kept;
    }

pub returns-clause-text : goal.returns-clause-text
returns-clause-text g c =
    let lists = map told_in_answer c.args.round.now in
    let count = c.count_in-n-end.ensures in
    let past : length (first_list lists) ≤ c.loop-n.n = omega (arith, c.loop-n-test.false, count) in
    let self = c.args.self.now in
    sym (append-nil c.loop-n.out.items)
    ∙ ap (λ (l : List (List Report)). c.loop-n.out.items ++ text_from c.loop-n.self.listed c.loop-n.self.kept l) (sym (none_left c.loop-n.n lists past))
    ∙ c.loop-n.invariant.text
    ∙ ap (λ (l : List (List Report)). c.args.out.now.items ++ text_from self.listed self.kept l) (all_left lists)

pub returns-clause-steps : goal.returns-clause-steps
returns-clause-steps g c =
    let lists = map told_in_answer c.args.round.now in
    let count = c.count_in-n-end.ensures in
    let past : length (first_list lists) ≤ c.loop-n.n = omega (arith, c.loop-n-test.false, count) in
    sym (append-nil c.loop-n.steps)
    ∙ ap (λ (l : List (List Report)). c.loop-n.steps ++ steps_in l) (sym (none_left c.loop-n.n lists past))
    ∙ c.loop-n.invariant.steps
    ∙ ap (λ (l : List (List Report)). c.args.steps.now ++ steps_in l) (all_left lists)

pub returns-clause-kept : goal.returns-clause-kept
returns-clause-kept g c =
    let lists = map told_in_answer c.args.round.now in
    let count = c.count_in-n-end.ensures in
    let past : length (first_list lists) ≤ c.loop-n.n = omega (arith, c.loop-n-test.false, count) in
    let self = c.args.self.now in
    seen_as c.loop-n.self self.listed (kept_after_rounds self.kept (rounds_left 0 lists)) (kept_after_rounds self.kept (rounds_in lists)) c.loop-n.invariant.listed
    (ap (kept_after_rounds c.loop-n.self.kept) (sym (none_left c.loop-n.n lists past)) ∙ c.loop-n.invariant.kept)
    (ap (kept_after_rounds self.kept) (all_left lists))
