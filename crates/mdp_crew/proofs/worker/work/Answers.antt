use Rattle.std.proofs.Common.{◌≡◌, true, false, refl, sym, subst}
use Rattle.std.specs.Prelude.{Option, IsSome}
use Rattle.mdp_crew.specs.Shares.{share_in}
use Rattle.mdp_crew.specs.Work.{HasAnswered}
use Rattle.mdp_crew.specs.declared.worker.Working.{Working}
use Rattle.mdp_crew.proofs.Working.{has_answered, has_failed, working_first, working_on}
use Rattle.mdp_crew.proofs.worker.work.Goals.{in-None, in-Some+then-not-answer_one}
use Rattle.mdp_crew.proofs.worker.work.Goals as goal

pub loop-init : goal.loop-init
loop-init g c = working_first (share_in c.args.share) c.args.ends _ c.requires.taken c.requires.sent refl c.in-Ok.ensures

pub loop-preserved : goal.loop-preserved
loop-preserved g c = working_on (share_in c.args.share) c.args.ends c.loop.working c.answer_one.new.self c.if-not-answer_one.ensures c.loop.invariant

-- there was no memory for its desks
pub returns-in_default : goal.returns-in_default
returns-in_default g c =
    has_failed (share_in c.args.share) c.args.ends (record { orders = c.drain_orders.new.orders; answers = c.put.new.self }) c.requires.taken c.requires.sent c.drain_orders.ensures c.put.ensures

pub returns : goal.returns
returns g c = elim c.match-next.branch [
  | in-None w ↦ let apart : false ≡ true = subst (λ (o : Option (Unit {0})). IsSome o) w.in-None.is c.next.ensures.steps in absurd cc
  | in-Some+then-not-answer_one w ↦
      subst (λ (now : Working g.row.A.Denot). HasAnswered (share_in c.args.share) c.args.ends now.ends) (sym w.working-is)
      (has_answered (share_in c.args.share) c.args.ends c.loop.working w.answer_one.new.self.ends w.if-not-answer_one.ensures c.loop.invariant)
]
