use Rattle.std.proofs.Common.{ℕ, List, ◌∙◌, ap, sym, length, arith}
use Rattle.std.specs.List.{slice_range}
use Rattle.mdp_reports.specs.declared.places.ToldAt.{ToldAt}
use Rattle.mdp_reports.specs.Flat.{told_of_rows}
use Rattle.mdp_reports.specs.Contents.{place_at}
use Rattle.mdp_reports.proofs.Reading.{within, rest_there, rest_none}
use Rattle.mdp_reports.proofs.reports.Reports.rest.Goals as goal

pub rows_between-requires-clause-order : goal.rows_between-requires-clause-order
rows_between-requires-clause-order g c = (within (length c.self.inside.rows.items) c.args.n c.self.inside.places.items _ _ c.self.invariant.places_in (ap (place_at c.args.n) (sym c.deref.ensures.value) ∙ sym c.in-Some.ensures)).0

pub rows_between-requires-clause-within : goal.rows_between-requires-clause-within
rows_between-requires-clause-within g c =
    let under = (within (length c.self.inside.rows.items) c.args.n c.self.inside.places.items _ _ c.self.invariant.places_in (ap (place_at c.args.n) (sym c.deref.ensures.value) ∙ sym c.in-Some.ensures)).1 in
    let same = ap length c.deref-in-Some-2.ensures.value in
    omega (arith, under, same)

pub returns-in-Some : goal.returns-in-Some
returns-in-Some g c =
    let bytes = c.self.inside.bytes.items in
    let rows = c.self.inside.rows.items in
    rw (← c.self.view_is)
    (c.of.ensures
    ∙ ap (λ (bs : List ℕ). told_of_rows bs c.rows_between.result.now) c.deref-in-Some.ensures.value
    ∙ ap (told_of_rows bytes) (c.rows_between.ensures ∙ ap (λ (rs : List ToldAt). slice_range rs c.in-Some.from c.in-Some.to) c.deref-in-Some-2.ensures.value)
    ∙ rest_there bytes rows c.args.n c.self.inside.places.items c.in-Some.from c.in-Some.to (ap (place_at c.args.n) (sym c.deref.ensures.value) ∙ sym c.in-Some.ensures))

pub returns-in-None : goal.returns-in-None
returns-in-None g c = rw (← c.self.view_is) (c.none.ensures ∙ rest_none (told_of_rows c.self.inside.bytes.items c.self.inside.rows.items) c.args.n c.self.inside.places.items (ap (place_at c.args.n) (sym c.deref.ensures.value) ∙ sym c.in-None.ensures))
