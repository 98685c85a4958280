use Rattle.std.proofs.Common.{rules, arith, ◌≤◌, ◌+◌, ◌-◌, ◌<◌, ◌++◌, refl, ap, ◌∙◌, sym, take, drop, length, length-append, append_assoc, vec_len, vec_capacity}
use Rattle.mdp_books.specs.Levels.{quote_text, levels_text}
use Rattle.mdp_quotes.specs.Merged.{totals_to}
use Rattle.mdp_print.specs.Pieces.{BeginsWith}
use Rattle.mdp_print.specs.Texts.{totals_text}
use Rattle.mdp_print.proofs.Fronts.{begins_less}
use Rattle.mdp_print.proofs.Merging.{put_is, put_alone}
use Rattle.mdp_print.proofs.merged.put_up_to.Goals as goal

pub put_at_place-requires : goal.put_at_place-requires
put_at_place-requires g c = record {
  alone = λ none.
      c.requires.text ∙ put_alone c.args.way c.args.level.now _ c.merge_place_of-place.result.ahead c.merge_place_of-place.result.passed c.merge_place_of-place.result.total
      c.merge_place_of-place.ensures.ahead c.merge_place_of-place.ensures.passed c.merge_place_of-place.ensures.total none;
}

pub returns-in_err-put_levels-clause-extends : goal.returns-in_err-put_levels-clause-extends
returns-in_err-put_levels-clause-extends g c =
    let t = c.merge_place_of-place.result.total in
    let n = c.merge_place_of-place.result.ahead in
    let is = put_is c.args.way c.args.level.now c.args.direct.now c.levels.result.now c.args.passed n t _
    c.levels.ensures.items c.merge_place_of-place.ensures.ahead c.merge_place_of-place.ensures.total refl in
    let run = levels_text (take ((c.args.passed + n) - c.args.passed) (drop c.args.passed c.args.direct.now)) in
    let all = c.args.out.now in
    let full : vec_capacity all < vec_len all + length (totals_text (totals_to c.args.way c.args.level.now (drop c.args.passed c.args.direct.now))) =
    omega (arith, c.in_err-put_levels.ensures.full, ap length is, length-append run (quote_text t.price t.size)) in
    search rules

pub returns-in_err-put_at_place-clause-extends : goal.returns-in_err-put_at_place-clause-extends
returns-in_err-put_at_place-clause-extends g c =
    let t = c.merge_place_of-place.result.total in
    let n = c.merge_place_of-place.result.ahead in
    let is = put_is c.args.way c.args.level.now c.args.direct.now c.levels.result.now c.args.passed n t _
    c.levels.ensures.items c.merge_place_of-place.ensures.ahead c.merge_place_of-place.ensures.total refl in
    let run = levels_text (take ((c.args.passed + n) - c.args.passed) (drop c.args.passed c.args.direct.now)) in
    let all = c.args.out.now in
    let front : BeginsWith c.put_at_place.new.out.items all.items = begins_less all.items run c.put_levels.new.out.items _ c.in_ok-put_levels.ensures.ok c.in_err-put_at_place.ensures.err in
    let room : vec_capacity all ≤ vec_capacity c.put_at_place.new.out = omega (arith, c.in_err-put_at_place.ensures.room, c.in_ok-put_levels.ensures.room) in
    let full : vec_capacity all < vec_len all + length (totals_text (totals_to c.args.way c.args.level.now (drop c.args.passed c.args.direct.now))) =
    omega (arith, c.in_err-put_at_place.ensures.full, c.in_ok-put_levels.ensures.len, c.in_ok-put_levels.ensures.room, ap length is, length-append run (quote_text t.price t.size)) in
    search rules

pub returns-clause-extends : goal.returns-clause-extends
returns-clause-extends g c =
    let t = c.merge_place_of-place.result.total in
    let n = c.merge_place_of-place.result.ahead in
    let is = put_is c.args.way c.args.level.now c.args.direct.now c.levels.result.now c.args.passed n t _
    c.levels.ensures.items c.merge_place_of-place.ensures.ahead c.merge_place_of-place.ensures.total refl in
    let run = levels_text (take ((c.args.passed + n) - c.args.passed) (drop c.args.passed c.args.direct.now)) in
    record {
      ok =
          c.in_ok-put_at_place.ensures.ok
          ∙ ap (λ ys. ys ++ quote_text t.price t.size) c.in_ok-put_levels.ensures.ok
          ∙ append_assoc c.args.out.now.items run (quote_text t.price t.size)
          ∙ ap (λ ys. c.args.out.now.items ++ ys) (sym is);
      err = tt;
      len = omega (arith, c.in_ok-put_at_place.ensures.len, c.in_ok-put_levels.ensures.len, ap length is, length-append run (quote_text t.price t.size));
      room = omega (arith, c.in_ok-put_at_place.ensures.room, c.in_ok-put_levels.ensures.room);
      full = tt;
    }
