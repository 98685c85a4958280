use Rattle.std.proofs.Common.{rules, ◌≡◌, ◌<◌, true, false, nat_lt, List, Bool, Fits, w32, length, get_or, ap, subst, sym, ◌∙◌, refl, arith}
use Rattle.std.proofs.lemmas.List.{length-map, length-set}
use Rattle.mdp_desks.specs.declared.desk.Desk.{Desk}
use Rattle.mdp_desks.specs.Beside.{AreClear}
use Rattle.mdp_desks.proofs.Waiting.{cleared, none_waits}
use Rattle.mdp_desks.proofs.Ripening.{found_all, found_more, later_more, only_more}
use Rattle.mdp_desks.proofs.desks.ripen_all.Goals as goal

pub loop-n-init : goal.loop-n-init
loop-n-init g c =
    let fits : Fits w32 c.args.packet = search rules in
    record {
      inside = omega arith;
      many = c.requires.many;
      only = c.requires.only;
      found = λ k n under below is. absurd (omega (arith, below));
      later = omega (arith, fits);
    }

pub ripen_one-until-requires : goal.ripen_one-until-requires
ripen_one-until-requires g c =
    let many = c.loop-n.invariant.many in
    let long : length c.args.marked.now ≡ length c.args.desks.now = ap length c.requires.marks ∙ simp length-map refl in
    omega (arith, c.in-Some.ensures.some.inside, long, many)

pub loop-n-preserved : goal.loop-n-preserved
loop-n-preserved g c =
    let ds = c.args.desks.now in
    let n = c.in-Some.n in
    let was = c.loop-n.invariant in
    let long : length c.args.marked.now ≡ length ds = ap length c.requires.marks ∙ simp length-map refl in
    let first = c.in-Some.ensures.some in
    let less : n < length ds = omega (arith, first.inside, long) in
    let clear = subst (λ (ms : List Bool). AreClear c.loop-n.from n ms) c.requires.marks first.before in
    let marked = subst (λ (ms : List Bool). get_or ms n false ≡ true) c.requires.marks first.is_set in
    let here = c.index-desks-n.result in
    let base = (get_or ds n here).base in
    let same = ap (λ (d : Desk). d.base) (sym c.index-desks-n.is) in
    let put = c.ripen_one-until.ensures.due in
    record {
      inside = omega (arith, less);
      many = ap length put ∙ length-set c.loop-n.due n (nat_lt base c.args.packet) ∙ was.many;
      only = only_more (nat_lt base c.args.packet) n c.loop-n.due _ ds marked put was.only;
      found = found_more c.args.packet c.loop-n.from c.loop-n.until n base c.loop-n.due _ _ ds here clear less was.many c.index-desks-n.is same put c.ripen_one-until.ensures.until was.found;
      later = later_more (nat_lt base c.args.packet) c.args.packet c.loop-n.until base _ refl c.ripen_one-until.ensures.until was.later;
    }

pub returns-then-until-lt18446744073709551615-clause-due : goal.returns-then-until-lt18446744073709551615-clause-due
returns-then-until-lt18446744073709551615-clause-due g c =
    let ds = c.args.desks.now in
    let was = c.loop-n.invariant in
    let long : length c.args.marked.now ≡ length ds = ap length c.requires.marks ∙ simp length-map refl in
    let none = c.in_default.ensures.none in
    let clear = subst (λ (ms : List Bool). AreClear c.loop-n.from (length ds) ms) c.requires.marks (λ i from under. none i from (omega (arith, under, long))) in
    found_all c.args.packet c.loop-n.from c.loop-n.until c.loop-n.due ds was.later was.many was.only clear was.found

pub returns-clause-due : goal.returns-clause-due
returns-clause-due g c =
    let is = c.clear.ensures in
    let many : length c.clear.new.self ≡ length c.args.desks.now = ap length is ∙ length-map c.loop-n.due (λ _. false) ∙ c.loop-n.invariant.many in
    none_waits c.args.desks.now c.clear.new.self many (λ n from under. ap (λ (ms : List Bool). get_or ms n false) is ∙ cleared c.loop-n.due n)
