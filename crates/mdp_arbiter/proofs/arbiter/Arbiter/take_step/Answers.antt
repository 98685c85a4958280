use Rattle.std.proofs.Common.{◌≡◌, ◌≤◌, ◌+◌, ◌∙◌, true, length, drop, map, arith, refl, sym, ap}
use Rattle.std.specs.Prelude.{Some, leb, not, ◌||◌}
use Rattle.std.specs.Vec.{with_items}
use Rattle.std.proofs.lemmas.List.{length-map, take_at}
use Rattle.std.proofs.lemmas.Grind.{common_steps}
use Rattle.mdp_arbiter.specs.Machine.{are_fresh, least_last, snapshots_of}
use Rattle.mdp_arbiter.proofs.Runs.{fresh_least}
use Rattle.mdp_arbiter.specs.declared.base.Base.{Base}
use Rattle.mdp_arbiter.specs.declared.base.Base.TheVariants.{Newest}
use Rattle.mdp_arbiter.specs.Bases.{bases_of}
use Rattle.mdp_arbiter.proofs.Bases.{bases_taken}
use Rattle.mdp_arbiter.proofs.Jumps.{jumps, goes_on}
use Rattle.mdp_arbiter.proofs.arbiter.Arbiter.take_step.Goals as goal

pub returns-clause-moves : goal.returns-clause-moves
returns-clause-moves g c =
    let fresh : are_fresh c.self.inside.room c.self.inside.top c.self.inside.newest.items ≡ true =
    grind (arith, common_steps, c.are_all_fresh.ensures, c.deref.ensures.value, c.if-not-are_all_fresh.false) in
    let lost : not c.self.inside.joined || leb (c.self.inside.next + c.self.inside.room) c.self.inside.top ≡ true =
    grind (arith, common_steps, c.self.view_is, c.lost.ensures.now, c.if-not-lost.false) in
    let least : least_last (snapshots_of c.self.inside.newest.items) ≡ Some c.from-last.result =
    grind (arith, common_steps, c.least_number.ensures, c.deref-2.ensures.value, c.in_ok-least_number.was, c.from-last.ensures) in
    let past : c.self.inside.top ≤ c.from-last.result + c.self.inside.room =
    fresh_least c.self.inside.room c.self.inside.top c.from-last.result c.self.inside.newest.items fresh least in
    let bases = c.self.inside.bases in
    let now = c.take_newest.new.bases in
    let is : now ≡ map (λ (b : Base). Newest) bases.items = c.take_newest.ensures ∙ ap (map (λ (b : Base). Newest)) c.deref_mut.ensures.value in
    let long : length now ≡ bases.len = ap length c.take_newest.ensures ∙ simp length-map c.deref_mut.ensures.len in
    let taken : bases_of c.self.inside.newest.items (with_items bases now).items ≡ c.self.inside.newest.items =
    ap (bases_of c.self.inside.newest.items) (take_at now (drop (length now) bases.items) bases.len long ∙ is)
    ∙ bases_taken c.self.inside.newest.items bases.items (c.self.invariant.9 ∙ sym c.self.invariant.8) in
    let small : c.from-last.result ≤ 4294967295 = omega arith in
    let on : c.self.inside.next ≤ c.from-last.result + 1 =
    (goes_on c.self.inside.joined c.self.inside.next c.self.inside.room c.self.inside.top c.from-last.result c.self.invariant.10 lost past small).0 in
    let first : (g.W.Window.view c.drop_below.new.self).first ≡ c.from-last.result + 1 = omega (arith, c.drop_below.ensures.0, c.self.invariant.0, past, on) in
    rw (← c.self.view_is) (jumps _ _ c.from-last.result c.if-self.false lost fresh least c.self.invariant.10 c.self.invariant.6 small refl refl c.max-self-inside.ensures
    taken refl refl refl (rw first at c.drop_below.ensures.2))
