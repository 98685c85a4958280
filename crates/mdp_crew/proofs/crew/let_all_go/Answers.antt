use Rattle.std.proofs.Common.{ℕ, [], ◌++◌, ◌-◌, take, sym, ap, ◌∙◌}
use Rattle.std.proofs.lemmas.List.{append-nil}
use Rattle.mdp_crew.specs.Crew.{IsHired, IsSettled}
use Rattle.mdp_crew.proofs.Gone.{last_is, one_gone, all_gone}
use Rattle.mdp_crew.proofs.crew.let_all_go.Goals as goal

pub loop-post-init : goal.loop-post-init
loop-post-init g c = (c.requires, ([], [], sym (append-nil _), sym (append-nil _), tt))

pub let_go-requires : goal.let_go-requires
let_go-requires g c =
    last_is IsHired IsSettled _ _ _ _ _ _ c.in-Some-pop.ensures.items c.in-Some.ensures.items c.loop-post.invariant.0

pub loop-post-preserved : goal.loop-post-preserved
loop-post-preserved g c =
    one_gone IsHired IsSettled _ _ _ _ _ _ _ _ c.in-Some-pop.ensures.items c.in-Some.ensures.items c.let_go.ensures c.loop-post.invariant

pub returns : goal.returns
returns g c =
    let none = c.in_default.ensures.items ∙ (ap (λ l. l ++ []) c.in_default.ensures.rest ∙ ap (λ (n : ℕ). take (n - 1) c.loop-post.posts.items ++ []) c.in_default.ensures.cases.0) in
    all_gone IsHired IsSettled _ _ _ _ none c.loop-post.invariant
