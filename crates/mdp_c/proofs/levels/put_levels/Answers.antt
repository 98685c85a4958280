use Rattle.std.proofs.Common.{◌≡◌, ℕ, ◌+◌, ◌≤◌, List, ◌∷◌, ◌++◌, length, map, drop, sym, ap, ◌∙◌, arith}
use Rattle.std.proofs.Math.ListN.{set}
use Rattle.std.proofs.lemmas.List.{drop_more, get_or-map, length-map}
use Rattle.mdp_c.specs.declared.levels.Level.{Level}
use Rattle.mdp_c.proofs.Filling.{all_filled, one_filled}
use Rattle.mdp_c.proofs.levels.put_levels.Goals as goal

pub loop-place-preserved : goal.loop-place-preserved
loop-place-preserved g c =
    let from = c.args.from.now in
    let told = g.T.TellsLevel.told in
    let place = c.loop-place.place in
    let item = c.index-from-place.result in
    let all : List Level = map told from in
    let more : List Level = drop (place + 1) all in
    let next : drop place all ≡ c.level.result ∷ more =
    drop_more all place (told item) (omega (arith, length-map from told, c.loop-place-test.true))
    ∙ ap (λ (level : Level). level ∷ more) (get_or-map told from place item (told item) c.loop-place-test.true ∙ ap told (sym c.index-from-place.is) ∙ sym c.level.ensures) in
    let room : length all ≤ length c.args.levels.now = omega (arith, length-map from told, c.requires) in
    ap (λ (levels : List Level). set levels place c.level.result) c.loop-place.invariant ∙ one_filled place all c.args.levels.now more c.level.result next room

pub returns : goal.returns
returns g c =
    let from = c.args.from.now in
    let all : List Level = map g.T.TellsLevel.told from in
    let every : c.loop-place.place ≡ length all = omega (arith, length-map from g.T.TellsLevel.told, c.loop-place.auto.place-end, c.loop-place-test.false) in
    let whole : length all ≡ length from = length-map from g.T.TellsLevel.told in
    c.loop-place.invariant ∙ all_filled c.loop-place.place all c.args.levels.now every ∙ ap (λ (n : ℕ). all ++ drop n c.args.levels.now) whole
