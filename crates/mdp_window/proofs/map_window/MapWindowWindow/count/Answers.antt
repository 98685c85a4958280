use Rattle.std.proofs.Common.{◌∙◌}
use Rattle.mdp_window.proofs.Counts.{count_items}
use Rattle.mdp_window.proofs.map_window.MapWindowWindow.count.Goals as goal

pub returns : goal.returns
returns g c =
    let window = c.self.inside in
    let counted = count_items window.items.entries window.first window.room c.len.ensures.ordered c.self.invariant.none_below c.self.invariant.none_past in
    rw (← c.self.view_is) (c.len.ensures.len ∙ counted)
