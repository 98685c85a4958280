use Rattle.std.proofs.Common.{arith}
use Rattle.mdp_books.proofs.printed_levels.put_at.Goals as goal

pub offset_bounds-deref_mut-at : goal.offset_bounds-deref_mut-at
offset_bounds-deref_mut-at g c = grind (arith, c.deref_mut.type_inv, c.deref_mut.ensures.value, c.requires)
