use Rattle.std.proofs.Common.{◌≡◌, ◌++◌, ◌∙◌, Bool, List, [], map, ap, subst}
use Rattle.std.proofs.lemmas.Result.{IfOk-weaker}
use Rattle.mdp_arbiter.specs.Machine.{trace}
use Rattle.mdp_arbiter.specs.Channel.{Channel}
use Rattle.mdp_desks.specs.Moments.{shown_lines}
use Rattle.mdp_engine.specs.Kept.{kept_lines}
use Rattle.mdp_engine.specs.Owed.{lines, owed_moments, numbered_moves}
use Rattle.mdp_engine.specs.Steps.{event_of}
use Rattle.mdp_engine.proofs.Owing.{law_of_owed_text, text_so_far}
use Rattle.mdp_engine.proofs.engine.replay.Goals as goal

pub returns-clause-shown : goal.returns-clause-shown
returns-clause-shown g c =
    let listed = c.args.instruments.now in
    let es = map event_of c.args.events.now in
    let made = c.in_ok-engine.ensures in
    IfOk-weaker c.lines_of.result _ _ (λ text ends.
    let then = ends listed made.stands in
    then.4 ∙ text_so_far listed es [] then.0 (then.2 ∙ made.keeps) then.1
    ∙ ap (λ (ch : Channel). shown_lines listed (trace ch es)) (then.3 ∙ made.channel))
    c.lines_of.ensures

pub returns-clause-owed : goal.returns-clause-owed
returns-clause-owed g c =
    let listed = c.args.instruments.now in
    let es = map event_of c.args.events.now in
    let made = c.in_ok-engine.ensures in
    IfOk-weaker c.lines_of.result _ _ (λ text ends feed honest.
    let then = ends listed made.stands in
    then.4 ∙ subst (λ (b : Bool). kept_lines b [] ++ then.0.held ≡ kept_lines b (owed_moments listed feed (numbered_moves (trace then.0.arbiter.channel es)))) (then.2 ∙ made.keeps)
    (law_of_owed_text listed feed es [] then.0 honest then.1)
    ∙ ap (λ (ch : Channel). lines listed feed (numbered_moves (trace ch es))) (then.3 ∙ made.channel))
    c.lines_of.ensures
