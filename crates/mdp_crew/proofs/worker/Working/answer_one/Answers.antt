use Rattle.mdp_crew.proofs.Working.{ends_failed, ends_done}
use Rattle.mdp_crew.proofs.worker.Working.answer_one.Goals as goal

pub returns-in-Take : goal.returns-in-Take
returns-in-Take g c =
    ends_failed c.args.self.now.ends c.report.new.self.ends (record { orders = c.drain_orders.new.orders; answers = c.put-in-Err.new.self }) c.take.new.self c.in-Take.moves c.take.result c.take.ensures c.in-Take.is c.in-Err.ensures.ends c.drain_orders.ensures c.put-in-Err.ensures

pub returns : goal.returns
returns g c = ends_done c.args.self.now.ends (record { orders = c.take.new.self; answers = c.put-in-Done.new.self }) c.take.result c.take.ensures c.in-Done.is c.put-in-Done.ensures
