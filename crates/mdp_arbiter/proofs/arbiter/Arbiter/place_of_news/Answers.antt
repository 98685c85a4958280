use Rattle.std.proofs.Common.{◌≡◌, ℕ, ◌<◌, ◌∙◌, true, false, inr, length, arith, refl, rules, sym}
use Rattle.std.specs.Prelude.{Some, slice_get}
use Rattle.std.proofs.lemmas.Grind.{common_steps}
use Rattle.std.proofs.lemmas.Int.{to_z-of_z}
use Rattle.std.proofs.lemmas.Option.{slice_get_within, slice_get_read}
use mir.Val.{SFits}
use mir.Syntax.{w32}
use Rattle.mdp_arbiter.specs.Accepted.{is_newer}
use Rattle.mdp_arbiter.proofs.Renewals.{no_news_at}
use Rattle.mdp_arbiter.proofs.arbiter.Arbiter.place_of_news.Goals as goal

pub returns-clause-some : goal.returns-clause-some
returns-clause-some g c =
    let inside = c.self.inside in
    let snapshot = c.args.snapshot.now in
    let fits : SFits w32 c.security.result = search rules in
    let at : slice_get inside.slots c.in-Some.slot ≡ Some snapshot.security = rw (to_z-of_z _ _ fits, c.security.ensures) at c.in-Some.ensures.some in
    let only : (other : ℕ) → slice_get inside.slots other ≡ Some snapshot.security → other ≡ c.in-Some.slot =
    rw (to_z-of_z _ _ fits, c.security.ensures) at c.in-Some.ensures.only in
    let within : c.in-Some.slot < length inside.newest.items = omega (arith, slice_get_within inside.slots c.in-Some.slot snapshot.security at, c.self.invariant.8) in
    let there : slice_get inside.newest.items c.in-Some.slot ≡ Some c.index.result.now = slice_get_read inside.newest.items _ _ _ refl within c.index.ensures in
    let newer : is_newer c.index.result.now snapshot ≡ true = grind (arith, common_steps, c.renews.ensures, c.if-not-renews.false) in
    rw (← c.self.view_is) (record { opened = c.if-self.false; held = c.index.result.now; at = at; only = only; there = there; newer = newer })

pub index-requires : goal.index-requires
index-requires g c =
    let fits : SFits w32 c.security.result = search rules in
    let at : slice_get c.self.inside.slots c.in-Some.slot ≡ Some c.args.snapshot.now.security = rw (to_z-of_z _ _ fits, c.security.ensures) at c.in-Some.ensures.some in
    omega (arith, slice_get_within c.self.inside.slots c.in-Some.slot c.args.snapshot.now.security at, c.self.invariant.8)

pub returns-then-not-renews-clause-none : goal.returns-then-not-renews-clause-none
returns-then-not-renews-clause-none g c =
    let inside = c.self.inside in
    let snapshot = c.args.snapshot.now in
    let fits : SFits w32 c.security.result = search rules in
    let at : slice_get inside.slots c.in-Some.slot ≡ Some snapshot.security = rw (to_z-of_z _ _ fits, c.security.ensures) at c.in-Some.ensures.some in
    let only : (other : ℕ) → slice_get inside.slots other ≡ Some snapshot.security → other ≡ c.in-Some.slot =
    rw (to_z-of_z _ _ fits, c.security.ensures) at c.in-Some.ensures.only in
    let within : c.in-Some.slot < length inside.newest.items = omega (arith, slice_get_within inside.slots c.in-Some.slot snapshot.security at, c.self.invariant.8) in
    let there : slice_get inside.newest.items c.in-Some.slot ≡ Some c.index.result.now = slice_get_read inside.newest.items _ _ _ refl within c.index.ensures in
    let older : is_newer c.index.result.now snapshot ≡ false = sym c.renews.ensures ∙ c.if-not-renews.true in
    rw (← c.self.view_is) (inr (no_news_at inside.slots inside.newest.items snapshot c.in-Some.slot c.index.result.now only there older))
