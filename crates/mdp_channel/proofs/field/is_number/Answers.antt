use Rattle.std.proofs.Common.{◌≡◌, ℕ, false, eqb, get_or, List, [], ◌∷◌, refl, sym, ◌∙◌, arith}
use Rattle.std.specs.Prelude.{nat_eq}
use Rattle.std.specs.List.{starts_with}
use Rattle.mdp_channel.proofs.field.is_number.Goals as goal

-- a zero in front is the first byte
first_is : (field : List ℕ) → starts_with nat_eq field (48 ∷ []) ≡ false → eqb (get_or field 0 0) 48 ≡ false
first_is [] is = refl
first_is (digit ∷ digits) is = grind arith

pub returns-then-not-starts_with : goal.returns-then-not-starts_with
returns-then-not-starts_with c =
    let first = first_is c.args.field.now (sym c.starts_with.ensures.value ∙ c.if-not-starts_with.true) in
    rw first c.has_digits_alone.ensures
