use Rattle.std.proofs.Common.{◌<◌, length, map, refl, sym, arith, ◌≡◌}
use Rattle.std.proofs.lemmas.List.{get_or-map, length-map}
use Rattle.mdp_arbiter.specs.declared.base.Base.{Base}
use Rattle.mdp_arbiter.specs.declared.base.Base.TheVariants.{Newest}
use Rattle.mdp_arbiter.proofs.Renewals.{front_grows}
use Rattle.mdp_arbiter.proofs.base.take_newest.Goals as goal

pub loop-slot-preserved : goal.loop-slot-preserved
loop-slot-preserved c =
    let bases = c.args.bases.now in
    let slot = c.loop-slot.slot in
    let long : length (map (λ (b : Base). Newest) bases) ≡ length bases = length-map bases (λ (b : Base). Newest) in
    let less : slot < length bases = omega (arith, c.loop-slot-test.true) in
    front_grows (map (λ (b : Base). Newest) bases) bases c.loop-slot.bases slot Newest Newest long (omega (arith, less, long)) (sym (get_or-map (λ (b : Base). Newest) bases slot Newest Newest less)) refl c.loop-slot.invariant
