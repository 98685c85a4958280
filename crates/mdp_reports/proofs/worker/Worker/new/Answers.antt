use Rattle.std.proofs.Common.{◌≢◌, map, ap, sym, subst, length, ◌∙◌}
use Rattle.std.specs.List.{All, AllPairs}
use Rattle.mdp_desks.specs.Desks.{desk_at_start}
use Rattle.mdp_desks.specs.Shares.{is_kept_by}
use Rattle.mdp_templates.specs.Instrument.{HasDepth}
use Rattle.mdp_reports.proofs.Owning.{own_all, own_pairs, own_as_many}
use Rattle.mdp_reports.proofs.worker.Worker.new.Goals as goal

pub new-requires-clause-differ : goal.new-requires-clause-differ
new-requires-clause-differ g c =
    subst (AllPairs (λ earlier later. earlier.id ≢ later.id)) (sym (c.deref.ensures.value ∙ c.in_ok-own.ensures.securities))
    (own_pairs (λ earlier later. earlier.id ≢ later.id) (is_kept_by c.args.count c.args.number) 0 c.args.listed.now c.requires.differ)

pub new-requires-clause-depths : goal.new-requires-clause-depths
new-requires-clause-depths g c =
    subst (All HasDepth) (sym (c.deref.ensures.value ∙ c.in_ok-own.ensures.securities))
    (own_all HasDepth (is_kept_by c.args.count c.args.number) 0 c.args.listed.now c.requires.depths)

pub invariant_of-result : goal.invariant_of-result
invariant_of-result g c =
    ap length c.in_ok-own.ensures.slots
    ∙ own_as_many desk_at_start (is_kept_by c.args.count c.args.number) 0 c.args.listed.now
    ∙ sym (ap length (c.in_ok-desks.ensures ∙ ap (map desk_at_start) (c.deref.ensures.value ∙ c.in_ok-own.ensures.securities)))
