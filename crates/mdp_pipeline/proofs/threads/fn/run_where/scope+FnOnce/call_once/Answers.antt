-- The closure requires what its call does, in another order.
use Rattle.mdp_pipeline.proofs.threads.fn.run_where.scope+FnOnce.call_once.Goals as goal

pub scope-requires : goal.scope-requires
scope-requires g c =
    let asked = c.requires.1.1.1.1.1 in
    let sends = asked.1 in (sends.0, (sends.1, (sends.2, (sends.3, (sends.4, (sends.5, asked.0))))))
