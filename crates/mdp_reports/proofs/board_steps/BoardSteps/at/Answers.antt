use Rattle.std.proofs.Common.{◌≡◌, ◌+◌, ℕ, List, length, drop, ap, sym, ◌∙◌, arith}
use Rattle.std.specs.List.{slice_range}
use Rattle.std.specs.Prelude.{Some, slice_get}
use Rattle.mdp_lanes.specs.declared.step.Step.TheVariants.{Event}
use Rattle.mdp_reports.specs.declared.board_steps.StepAt.{StepAt}
use Rattle.mdp_reports.specs.Steps.{end_of}
use Rattle.mdp_reports.proofs.Stepping.{Pair, at_within, jump_there, event_there, none_there}
use Rattle.mdp_reports.proofs.board_steps.BoardSteps.at.Goals as goal

pub pairs_between-requires-clause-order : goal.pairs_between-requires-clause-order
pairs_between-requires-clause-order g c =
    let count = length c.self.inside.rows.items in
    let is = ap (λ (l : List StepAt). slice_get l c.args.n) (sym c.deref.ensures.value) ∙ sym c.in-Some.ensures in
    let all : c.len.result ≡ count = omega (arith, c.len.ensures) in
    let end : c.end_before-to.result ≡ end_of count (drop (c.args.n + 1) c.self.inside.places.items) =
    c.end_before-to.ensures ∙ ap (λ (n : ℕ). end_of n (drop (c.args.n + 1) c.deref-else-place.result.now)) all ∙ ap (λ (l : List StepAt). end_of count (drop (c.args.n + 1) l)) c.deref-else-place.ensures.value in
    let order = (at_within count c.args.n c.self.inside.places.items c.in-Some.place c.self.invariant is).0 in
    omega (arith, order, end)

pub pairs_between-requires-clause-within : goal.pairs_between-requires-clause-within
pairs_between-requires-clause-within g c =
    let count = length c.self.inside.rows.items in
    let is = ap (λ (l : List StepAt). slice_get l c.args.n) (sym c.deref.ensures.value) ∙ sym c.in-Some.ensures in
    let all : c.len.result ≡ count = omega (arith, c.len.ensures) in
    let end : c.end_before-to.result ≡ end_of count (drop (c.args.n + 1) c.self.inside.places.items) =
    c.end_before-to.ensures ∙ ap (λ (n : ℕ). end_of n (drop (c.args.n + 1) c.deref-else-place.result.now)) all ∙ ap (λ (l : List StepAt). end_of count (drop (c.args.n + 1) l)) c.deref-else-place.ensures.value in
    let under = (at_within count c.args.n c.self.inside.places.items c.in-Some.place c.self.invariant is).1 in
    let same = ap length c.deref-else-place-2.ensures.value in
    omega (arith, under, end, same)

pub returns-then-place : goal.returns-then-place
returns-then-place g c =
    rw (← c.self.view_is) (jump_there c.self.inside.rows.items c.args.n c.self.inside.places.items c.in-Some.place (ap (λ (l : List StepAt). slice_get l c.args.n) (sym c.deref.ensures.value) ∙ sym c.in-Some.ensures) c.if-place.true)

pub returns-else-place : goal.returns-else-place
returns-else-place g c =
    let count = length c.self.inside.rows.items in
    let is = ap (λ (l : List StepAt). slice_get l c.args.n) (sym c.deref.ensures.value) ∙ sym c.in-Some.ensures in
    let all : c.len.result ≡ count = omega (arith, c.len.ensures) in
    let end : c.end_before-to.result ≡ end_of count (drop (c.args.n + 1) c.self.inside.places.items) =
    c.end_before-to.ensures ∙ ap (λ (n : ℕ). end_of n (drop (c.args.n + 1) c.deref-else-place.result.now)) all ∙ ap (λ (l : List StepAt). end_of count (drop (c.args.n + 1) l)) c.deref-else-place.ensures.value in
    let from = c.in-Some.place.from in
    let pairs : c.pairs_between.result.now ≡ slice_range c.self.inside.rows.items from (end_of count (drop (c.args.n + 1) c.self.inside.places.items)) =
    c.pairs_between.ensures ∙ ap (λ (rows : List Pair). slice_range rows from c.end_before-to.result) c.deref-else-place-2.ensures.value ∙ ap (slice_range c.self.inside.rows.items from) end in
    rw (← c.self.view_is) (ap (λ (rows : List Pair). Some (Event rows)) pairs ∙ event_there c.self.inside.rows.items c.args.n c.self.inside.places.items c.in-Some.place is c.if-place.false)

pub returns-in-None : goal.returns-in-None
returns-in-None g c =
    rw (← c.self.view_is) (none_there c.self.inside.rows.items c.args.n c.self.inside.places.items (ap (λ (l : List StepAt). slice_get l c.args.n) (sym c.deref.ensures.value) ∙ sym c.in-None.ensures))
