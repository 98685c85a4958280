use Rattle.std.proofs.Common.{◌≡◌, Bool, false, List, length, take, map, get_or, refl, sym, ap, subst, ◌∙◌, arith}
use Rattle.std.proofs.lemmas.List.{take_all, length-map, length-replicate, get_or-replicate}
use Rattle.mdp_templates.specs.Instrument.{HasDepth}
use Rattle.mdp_desks.specs.Desks.{desk_at_start}
use Rattle.mdp_desks.specs.Beside.{marks_of}
use Rattle.mdp_desks.proofs.Hearing.{beside_start}
use Rattle.mdp_desks.proofs.Waiting.{none_waits}
use Rattle.mdp_desks.proofs.Passing.{marks_at_start}
use Rattle.mdp_desks.proofs.desks.Desks.new.Goals as goal

pub invariant_of-result : goal.invariant_of-result
invariant_of-result g c =
    let listed = c.args.instruments.now in
    let all : take c.loop-instrument.instrument-index listed ≡ listed = take_all c.loop-instrument.instrument-index listed (omega arith) in
    let desks : c.loop-instrument.desks.items ≡ map desk_at_start listed = c.loop-instrument.invariant.desks ∙ ap (map desk_at_start) all in
    let due : length c.in_ok-due.due ≡ length listed = ap length c.in_ok-due.ensures ∙ simp length-replicate refl in
    let many : length c.loop-instrument.desks.items ≡ length listed = ap length desks ∙ simp length-map refl in
    (beside_start listed c.loop-instrument.desks.items c.in_ok-slots.slots c.in_ok-marked.marked c.requires.differ c.requires.depths desks c.in_ok-slots.ensures (c.in_ok-marked.ensures ∙ marks_at_start listed ∙ ap marks_of (sym desks)), none_waits c.loop-instrument.desks.items c.in_ok-due.due (due ∙ sym many) (λ n from under. ap (λ (ms : List Bool). get_or ms n false) c.in_ok-due.ensures ∙ get_or-replicate (length listed) n false false (omega (arith, under, due))))

pub new-requires : goal.new-requires
new-requires g c = subst HasDepth (sym (c.copy.ensures ∙ c.instrument-item.is)) (c.requires.depths c.loop-instrument.instrument-index _ (omega arith))
