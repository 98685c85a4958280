use Rattle.std.proofs.Common.{◌≡◌, ◌∙◌, arith}
use Rattle.std.specs.Int.{w64, cast_signed, cast_unsigned}
use Rattle.std.proofs.lemmas.Int.{to_z-of_z}
use Rattle.mdp_sbe.proofs.Numbers.{int64_at-rest}
use Rattle.mdp_sbe.proofs.number.i64_at.Goals as goal

pub returns : goal.returns
returns c =
    let same : cast_signed w64 (cast_unsigned w64 c.read_i64.result) ≡ c.read_i64.result = grind (arith, to_z-of_z) in
    same ∙ c.read_i64.ensures ∙ int64_at-rest c.args.offset c.args.text.now
