use Rattle.std.proofs.Common.{rules, arith, ◌≡◌, ◌+◌, ◌<◌, ◌≤◌, ◌++◌, refl, ap, ◌∙◌, sym, length, vec_len, vec_capacity}
use Rattle.mdp_quotes.specs.Merged.{merged}
use Rattle.mdp_print.specs.Pieces.{BeginsWith}
use Rattle.mdp_print.specs.Texts.{totals_text}
use Rattle.mdp_print.proofs.Fronts.{begins_first, begins_more}
use Rattle.mdp_print.proofs.Merging.{last_is, stands_at, left_at, lengths_at, parts_on}
use Rattle.mdp_print.proofs.merged.put_merged_levels.Goals as goal

pub put_up_to-requires : goal.put_up_to-requires
put_up_to-requires g c =
    let at = stands_at c.loop-n.n c.levels-levels.result.now c.args.implied.now _ c.levels-levels.ensures.items c.loop-n-test.true in
    record { passed = c.loop-n.invariant.inside; text = c.text_of-text.ensures ∙ at.text }

pub loop-n-preserved : goal.loop-n-preserved
loop-n-preserved g c =
    let at = stands_at c.loop-n.n c.levels-levels.result.now c.args.implied.now _ c.levels-levels.ensures.items c.loop-n-test.true in
    let split = left_at c.args.way c.args.direct.now c.args.implied.now c.loop-n.passed c.in_ok-passed.passed c.loop-n.n _ at c.in_ok-passed.ensures.passed in
    let lengths = lengths_at c.args.way c.args.direct.now c.args.implied.now c.loop-n.passed c.in_ok-passed.passed c.loop-n.n _ at c.in_ok-passed.ensures.passed in
    record {
      inside = c.in_ok-passed.ensures.inside;
      text = parts_on c.loop-n.out.items c.put_up_to.new.out.items _ _ _ c.in_ok-passed.ensures.extends.ok (ap (λ ys. c.loop-n.out.items ++ ys) (sym split) ∙ c.loop-n.invariant.text);
      len = omega (arith, c.in_ok-passed.ensures.extends.len, lengths, c.loop-n.invariant.len);
      front = rw c.in_ok-passed.ensures.extends.ok (begins_more c.args.out.now.items c.loop-n.out.items _ c.loop-n.invariant.front);
      room = omega (arith, c.in_ok-passed.ensures.extends.room, c.loop-n.invariant.room);
    }

pub returns : goal.returns
returns g c =
    let last = last_is c.args.way c.args.direct.now c.args.implied.now c.loop-n.passed c.loop-n.n c.len.result _
    (omega (arith, c.loop-n-test.false, ap length c.levels-levels.ensures.items)) c.len.ensures.value refl in
    let all : c.loop-n.out.items ++ _ ≡ c.args.out.now.items ++ totals_text (merged c.args.way c.args.direct.now c.args.implied.now) =
    ap (λ ys. c.loop-n.out.items ++ ys) (sym last) ∙ c.loop-n.invariant.text in
    record {
      ok = c.in_ok-put_levels.ensures.ok ∙ all;
      err = tt;
      len = omega (arith, c.in_ok-put_levels.ensures.len, ap length last, c.loop-n.invariant.len);
      room = omega (arith, c.in_ok-put_levels.ensures.room, c.loop-n.invariant.room);
      full = tt;
    }

pub returns-in_err-put_levels : goal.returns-in_err-put_levels
returns-in_err-put_levels g c =
    let last = last_is c.args.way c.args.direct.now c.args.implied.now c.loop-n.passed c.loop-n.n c.len.result _
    (omega (arith, c.loop-n-test.false, ap length c.levels-levels.ensures.items)) c.len.ensures.value refl in
    let all = c.args.out.now in
    let front : BeginsWith c.put_levels.new.out.items all.items = begins_first all.items c.loop-n.out.items c.put_levels.new.out.items c.loop-n.invariant.front c.in_err-put_levels.ensures.err in
    let room : vec_capacity all ≤ vec_capacity c.put_levels.new.out = omega (arith, c.in_err-put_levels.ensures.room, c.loop-n.invariant.room) in
    let full : vec_capacity all < vec_len all + length (totals_text (merged c.args.way c.args.direct.now c.args.implied.now)) =
    omega (arith, c.in_err-put_levels.ensures.full, ap length last, c.loop-n.invariant.len, c.loop-n.invariant.room) in
    search rules
