use Rattle.std.proofs.Common.{◌≡◌, ◌∙◌, arith}
use Rattle.std.specs.Int.{w32, cast_signed, cast_unsigned}
use Rattle.std.proofs.lemmas.Int.{to_z-of_z}
use Rattle.mdp_sbe.proofs.Numbers.{int32_at-rest}
use Rattle.mdp_sbe.proofs.number.i32_at.Goals as goal

pub returns : goal.returns
returns c =
    let same : cast_signed w32 (cast_unsigned w32 c.read_i32.result) ≡ c.read_i32.result = grind (arith, to_z-of_z) in
    same ∙ c.read_i32.ensures ∙ int32_at-rest c.args.offset c.args.text.now
