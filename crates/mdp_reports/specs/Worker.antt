-- A worker as contracts see it.
use Rattle.std.specs.Prelude.{ℕ, List, refl}
use Rattle.std.specs.Coded.{Coded, code_by, coded×, coded_ℕ, coded_list}
use Rattle.mdp_desks.specs.declared.desk.Desk.{Desk}
use Rattle.mdp_desks.specs.contracts.desk.Desk as desk

-- the slots of its own securities among all listed ones, and their desks
pub record View : Type 0 where
  pub slots : List ℕ
  pub desks : List Desk

abbrev pub view_code : Coded View
view_code =
    code_by (List ℕ × List Desk) (coded× (coded_list coded_ℕ) (coded_list desk.the_row.coded)) (λ v. (v.slots, v.desks))
    (λ t. record { slots = t.0; desks = t.1 }) (λ _. refl)
