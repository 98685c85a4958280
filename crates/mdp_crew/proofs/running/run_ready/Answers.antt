use Rattle.std.proofs.Common.{◌≡◌, List, ℕ, ap, length, map, sym, subst, ◌∙◌}
use Rattle.std.specs.Prelude.{◌-◌, IfErr, IfOk, Result}
use Rattle.std.specs.List.{AllZip}
use Rattle.mdp_lanes.specs.Queues.{LaneSenderView}
use Rattle.mdp_arbiter.specs.declared.arbiter.Standing.{Standing}
use Rattle.mdp_crew.specs.declared.crew.Post.{Post}
use Rattle.mdp_crew.specs.declared.order.Order.{Order}
use Rattle.mdp_crew.specs.declared.fault.RunFault.{RunFault}
use Rattle.mdp_crew.specs.Arbitrating.{IsNextNumber}
use Rattle.mdp_crew.specs.Batches.{events_taken}
use Rattle.mdp_crew.specs.Collecting.{showing}
use Rattle.mdp_crew.specs.Crew.{IsHired}
use Rattle.mdp_crew.specs.Orders.{and_sent, orders_of}
use Rattle.mdp_crew.specs.Outlets.{out}
use Rattle.mdp_crew.specs.Plan.{channel_in}
use Rattle.mdp_crew.specs.Running.{HasShown}
use Rattle.mdp_crew.specs.Faults.{FailsBy, written_before}
use Rattle.mdp_crew.proofs.Ending.{fails_alike, range_of, told_alike}
use Rattle.mdp_crew.proofs.Joined.{sent_there}
use Rattle.mdp_crew.proofs.Settling.{ended_took, hired_still}
use Rattle.mdp_desks.proofs.Hearing.{ids_differ}
use Rattle.mdp_crew.proofs.Together.{met}
use Rattle.mdp_crew.proofs.running.run_ready.Goals as goal

pub let_all_go-requires : goal.let_all_go-requires
let_all_go-requires g c =
    let ready = c.args.ready in
    let sent = sent_there (λ h. h.promise.plan.value) (λ h. h.promise.receiver.value) (λ h. h.promise.senders.value.items) c.begin_arbiter-arbitrating.result c.args.plan c.args.receiver c.args.ready.senders.items c.join-receiver.result c.begin_arbiter-arbitrating.ensures c.join-receiver.ensures in
    let old = showing ready.collecting (g.W.CountedWrite.taken c.args.writer.now) c.args.board.now in
    let new = showing c.collect-collected.new.self (g.W.CountedWrite.taken c.collect-collected.new.writer) c.collect-collected.new.board in
    let rows = ended_took old new c.collect-collected.result c.collect-collected.ensures.ends in
    subst (λ (l : List (LaneSenderView (Order g.row.A.Denot))). AllZip IsHired l new.posts) (sym sent.lanes)
    (subst (λ (l : List (Post g.row.A.Denot)). AllZip IsHired (map (and_sent (orders_of sent.batches)) ready.senders.items) l) (sym rows.1)
    (hired_still (orders_of sent.batches) ready.senders.items old.posts rows.0 c.requires.ready.crew.hired))

pub returns-clause-takes : goal.returns-clause-takes
returns-clause-takes g c = (sent_there (λ h. h.promise.plan.value) (λ h. h.promise.receiver.value) (λ h. h.promise.senders.value.items) c.begin_arbiter-arbitrating.result c.args.plan c.args.receiver c.args.ready.senders.items c.join-receiver.result c.begin_arbiter-arbitrating.ensures c.join-receiver.ensures).takes

pub returns-clause-ends : goal.returns-clause-ends
returns-clause-ends g c = (sent_there (λ h. h.promise.plan.value) (λ h. h.promise.receiver.value) (λ h. h.promise.senders.value.items) c.begin_arbiter-arbitrating.result c.args.plan c.args.receiver c.args.ready.senders.items c.join-receiver.result c.begin_arbiter-arbitrating.ensures c.join-receiver.ensures).ends

pub returns-clause-shows : goal.returns-clause-shows
returns-clause-shows g c =
    let listed = c.args.plan.instruments.now in
    let ready = c.args.ready in
    let is = c.requires.ready in
    let old = showing ready.collecting (g.W.CountedWrite.taken c.args.writer.now) c.args.board.now in
    let new = showing c.collect-collected.new.self (g.W.CountedWrite.taken c.collect-collected.new.writer) c.collect-collected.new.board in
    let sent = sent_there (λ h. h.promise.plan.value) (λ h. h.promise.receiver.value) (λ h. h.promise.senders.value.items) c.begin_arbiter-arbitrating.result c.args.plan c.args.receiver c.args.ready.senders.items c.join-receiver.result c.begin_arbiter-arbitrating.ensures c.join-receiver.ensures in
    let outcome = c.join-receiver.result in
    subst (λ (o : Result Standing RunFault). HasShown (channel_in c.args.plan) (events_taken outcome.receiver.taken) (out old.taken old.board) (out new.taken new.board) o) (sym c.outcome.ensures)
    (met (channel_in c.args.plan) c.args.plan.workers c.written_since.result ready.senders.items old new c.args.receiver outcome c.collect-collected.result c.requires.some (ids_differ listed c.requires.lawful.fit.ids_differ) is.crew is.collector_is sent c.collect-collected.ensures.ends c.let_all_go.ensures)

pub returns-clause-failed : goal.returns-clause-failed
returns-clause-failed g c =
    subst (λ (o : Result Standing RunFault). FailsBy o (g.W.CountedWrite.failed c.args.writer.now) (g.W.CountedWrite.failed c.collect-collected.new.writer)) (sym c.outcome.ensures)
    (fails_alike c.written_since.result c.collect-collected.result _ _ _ c.collect-collected.ensures.failed)

pub returns-clause-told : goal.returns-clause-told
returns-clause-told g c =
    let start = g.W.CountedWrite.taken c.args.writer.now in
    let taken = g.W.CountedWrite.taken c.collect-collected.new.writer in
    let begun = ap (λ (n : ℕ). length taken - n) c.written-since.ensures in
    subst (λ (o : Result Standing RunFault). IfErr o (λ (fault : RunFault). written_before fault ≡ length taken - length start)) (sym c.outcome.ensures)
    (told_alike c.written_since.result (length taken - length start) c.collect-collected.result _ (c.written_since.ensures ∙ begun)
    (subst (λ (n : ℕ). IfErr c.collect-collected.result (λ (fault : RunFault). written_before fault ≡ length taken - n)) c.written-since.ensures c.collect-collected.ensures.told))

pub returns-clause-range : goal.returns-clause-range
returns-clause-range g c =
    let sent = sent_there (λ h. h.promise.plan.value) (λ h. h.promise.receiver.value) (λ h. h.promise.senders.value.items) c.begin_arbiter-arbitrating.result c.args.plan c.args.receiver c.args.ready.senders.items c.join-receiver.result c.begin_arbiter-arbitrating.ensures c.join-receiver.ensures in
    subst (λ (o : Result Standing RunFault). IfOk o (λ (standing : Standing). IsNextNumber standing.next)) (sym c.outcome.ensures) (range_of c.written_since.result c.collect-collected.result c.join-receiver.result.standing sent.range)
