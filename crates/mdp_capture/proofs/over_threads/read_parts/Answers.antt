use Rattle.std.proofs.Common.{◌≡◌, rules, length, arith, vec_len}
use Rattle.mdp_capture.proofs.Parts.{are_read, if_ok_both}
use Rattle.mdp_capture.proofs.over_threads.read_parts.Goals as goal

pub returns : goal.returns
returns g c =
    if_ok_both c.map_indices.result _ _ _ (λ parts long each.
    let n : vec_len parts ≡ length c.args.texts.now = long in
    let m : length parts.items ≡ vec_len parts = search rules in
    are_read c.args.texts.now parts.items (omega (arith, m, n)) (λ i d t below. (each i d below).1.met t)) c.map_indices.ensures.len c.map_indices.ensures.each
