use Rattle.std.proofs.Common.{◌≡◌, ℕ, ◌<◌, length, arith, refl, rules}
use Rattle.std.specs.Prelude.{Some, slice_get}
use Rattle.std.proofs.lemmas.Int.{to_z-of_z}
use Rattle.std.proofs.lemmas.Option.{slice_get_within, slice_get_read}
use mir.Val.{SFits}
use mir.Syntax.{w32}
use Rattle.mdp_arbiter.proofs.Fates.{fate_at, fate_unlisted}
use Rattle.mdp_arbiter.proofs.arbiter.Arbiter.see_fate.Goals as goal

pub returns-in_default : goal.returns-in_default
returns-in_default g c =
    let fits : SFits w32 c.security.result = search rules in
    let none : (slot : ℕ) → slice_get c.self.inside.slots slot ≡ Some c.args.snapshot.now.security → ⊥ = rw (to_z-of_z _ _ fits, c.security.ensures) at c.in_default.ensures.none in
    rw (← c.self.view_is, c.if-self.false, fate_unlisted c.self.inside.slots c.self.inside.newest.items c.args.snapshot.now none) refl

pub index-requires : goal.index-requires
index-requires g c =
    let fits : SFits w32 c.security.result = search rules in
    let at : slice_get c.self.inside.slots c.in-Some.slot ≡ Some c.args.snapshot.now.security = rw (to_z-of_z _ _ fits, c.security.ensures) at c.in-Some.ensures.some in
    omega (arith, slice_get_within c.self.inside.slots c.in-Some.slot c.args.snapshot.now.security at, c.self.invariant.8)

pub returns-then-renews : goal.returns-then-renews
returns-then-renews g c =
    let fits : SFits w32 c.security.result = search rules in
    let at : slice_get c.self.inside.slots c.in-Some.slot ≡ Some c.args.snapshot.now.security = rw (to_z-of_z _ _ fits, c.security.ensures) at c.in-Some.ensures.some in
    let only : (other : ℕ) → slice_get c.self.inside.slots other ≡ Some c.args.snapshot.now.security → other ≡ c.in-Some.slot = rw (to_z-of_z _ _ fits, c.security.ensures) at c.in-Some.ensures.only in
    let within : c.in-Some.slot < length c.self.inside.newest.items = omega (arith, slice_get_within c.self.inside.slots c.in-Some.slot c.args.snapshot.now.security at, c.self.invariant.8) in
    let there : slice_get c.self.inside.newest.items c.in-Some.slot ≡ Some c.index.result.now = slice_get_read c.self.inside.newest.items _ _ _ refl within c.index.ensures in
    rw (← c.self.view_is, c.if-self.false, fate_at c.self.inside.slots c.self.inside.newest.items c.args.snapshot.now c.in-Some.slot c.index.result.now at only there, ← c.renews.ensures, c.if-renews.true) refl

pub returns : goal.returns
returns g c =
    let fits : SFits w32 c.security.result = search rules in
    let at : slice_get c.self.inside.slots c.in-Some.slot ≡ Some c.args.snapshot.now.security = rw (to_z-of_z _ _ fits, c.security.ensures) at c.in-Some.ensures.some in
    let only : (other : ℕ) → slice_get c.self.inside.slots other ≡ Some c.args.snapshot.now.security → other ≡ c.in-Some.slot = rw (to_z-of_z _ _ fits, c.security.ensures) at c.in-Some.ensures.only in
    let within : c.in-Some.slot < length c.self.inside.newest.items = omega (arith, slice_get_within c.self.inside.slots c.in-Some.slot c.args.snapshot.now.security at, c.self.invariant.8) in
    let there : slice_get c.self.inside.newest.items c.in-Some.slot ≡ Some c.index.result.now = slice_get_read c.self.inside.newest.items _ _ _ refl within c.index.ensures in
    rw (← c.self.view_is, c.if-self.false, fate_at c.self.inside.slots c.self.inside.newest.items c.args.snapshot.now c.in-Some.slot c.index.result.now at only there, ← c.renews.ensures, c.if-renews.false) refl
