use Rattle.std.proofs.Common.{◌≡◌, ◌<◌, ◌+◌, ◌-◌, ◌*◌, length, ℕ, take, drop, Some, sym, ap, ◌∙◌, subst, arith}
use Rattle.mdp_sbe.proofs.Pieces.{length-pieces, slice_get-pieces, piece_fits}
use Rattle.mdp_sbe.proofs.group.Group.entry.Goals as goal

pub overflow_mul-start : goal.overflow_mul-start
overflow_mul-start c =
    let inside : c.args.n < c.self.inside.count = subst (λ (k : ℕ). c.args.n < k) (ap length (sym c.self.view_is) ∙ length-pieces c.self.inside.count c.self.inside.entry_length c.self.inside.entries.now) c.requires in
    let fits = piece_fits c.args.n c.self.inside.count c.self.inside.entry_length (length c.self.inside.entries.now) inside c.self.invariant in
    omega (arith, fits, c.self.told.0)

pub overflow_add-result : goal.overflow_add-result
overflow_add-result c =
    let inside : c.args.n < c.self.inside.count = subst (λ (k : ℕ). c.args.n < k) (ap length (sym c.self.view_is) ∙ length-pieces c.self.inside.count c.self.inside.entry_length c.self.inside.entries.now) c.requires in
    let fits = piece_fits c.args.n c.self.inside.count c.self.inside.entry_length (length c.self.inside.entries.now) inside c.self.invariant in
    omega (arith, fits, c.self.told.0)

pub slice_bounds-result-end : goal.slice_bounds-result-end
slice_bounds-result-end c =
    let inside : c.args.n < c.self.inside.count = subst (λ (k : ℕ). c.args.n < k) (ap length (sym c.self.view_is) ∙ length-pieces c.self.inside.count c.self.inside.entry_length c.self.inside.entries.now) c.requires in
    piece_fits c.args.n c.self.inside.count c.self.inside.entry_length (length c.self.inside.entries.now) inside c.self.invariant

pub returns : goal.returns
returns c =
    let inside : c.args.n < c.self.inside.count = subst (λ (k : ℕ). c.args.n < k) (ap length (sym c.self.view_is) ∙ length-pieces c.self.inside.count c.self.inside.entry_length c.self.inside.entries.now) c.requires in
    let size : c.self.inside.entry_length ≡ c.args.n * c.self.inside.entry_length + c.self.inside.entry_length - c.args.n * c.self.inside.entry_length = omega arith in
    rw (← c.self.view_is) (slice_get-pieces c.self.inside.count c.self.inside.entry_length c.args.n c.self.inside.entries.now inside ∙ ap (λ (k : ℕ). Some (take k (drop (c.args.n * c.self.inside.entry_length) c.self.inside.entries.now))) size)
