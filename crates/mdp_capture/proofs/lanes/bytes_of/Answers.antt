use Rattle.std.proofs.Common.{◌≡◌, ◌+◌, ◌*◌, ◌++◌, length, get_or, refl, ap, ◌∙◌, arith}
use Rattle.std.proofs.lemmas.List.{get_or_append_left, get_or-append-add}
use Rattle.mdp_capture.specs.declared.lanes.TheConstants.{ODD}
use Rattle.mdp_capture.proofs.Values.{odd_at}
use Rattle.mdp_capture.proofs.lanes.bytes_of.Goals as goal

pub returns-clause-first : goal.returns-clause-first
returns-clause-first c i under =
    let xs = c.pairs_in.result in
    let ys = c.pairs_in-2.result in
    odd_at ODD xs ys i refl c.pairs_in.ensures.len (omega arith) refl
    ∙ get_or_append_left xs ys 0 (2 * i + 1) (omega (arith, c.pairs_in.ensures.len))
    ∙ c.pairs_in.ensures.pairs i under

pub returns-clause-second : goal.returns-clause-second
returns-clause-second c i under =
    let xs = c.pairs_in.result in
    let ys = c.pairs_in-2.result in
    let place : 2 * (8 + i) + 1 ≡ length xs + (2 * i + 1) = omega (arith, c.pairs_in.ensures.len) in
    odd_at ODD xs ys (8 + i) refl c.pairs_in.ensures.len (omega arith) refl
    ∙ ap (λ k. get_or (xs ++ ys) k 0) place ∙ get_or-append-add xs ys (2 * i + 1) 0
    ∙ c.pairs_in-2.ensures.pairs i under
