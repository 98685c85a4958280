use Rattle.std.proofs.Common.{◌≡◌, ℕ, List, ◌∷◌, sym, ap, ◌∙◌}
use Rattle.mdp_channel.specs.Address.{group_of_parts, parts, parts_left}
use Rattle.mdp_channel.proofs.Parting.{group_of_left}
use Rattle.mdp_channel.proofs.address.group_of.Goals as goal

pub returns-then-is_some : goal.returns-then-is_some
returns-then-is_some c =
    let first = c.cut_at.result.0.now in
    let second = c.cut_at-2.result.0.now in
    let third = c.cut_at-3.result.0.now in
    let fourth = c.cut_at-4.result.0.now in
    let last = rw c.in_ok-rest-3.was at c.cut_at-3.ensures in
    let later = rw c.in_ok-rest-2.was at c.cut_at-2.ensures in
    let all = rw c.in_ok-rest.was at c.cut_at.ensures in
    let four : parts 46 c.args.field.now ≡ first ∷ second ∷ third ∷ fourth ∷ parts_left 46 c.cut_at-4.result.1 =
    all ∙ ap (λ (p : List (List ℕ)). first ∷ p) (later ∙ ap (λ (p : List (List ℕ)). second ∷ p) (last ∙ ap (λ (p : List (List ℕ)). third ∷ p) c.cut_at-4.ensures)) in
    sym (ap group_of_parts four ∙ group_of_left first second third fourth c.cut_at-4.result.1 (sym c.is_some.ensures ∙ c.if-is_some.true))
