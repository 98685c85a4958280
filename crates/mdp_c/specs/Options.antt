-- What options say.
use Rattle.std.specs.Prelude.{ℕ, ◌==◌, ◌&&◌, nat_le, Bool, true, false, if◌then◌else◌, Option, None, Some}
use Rattle.mdp_arbiter.specs.declared.start.Start.{Start}
use Rattle.mdp_arbiter.specs.declared.start.Start.TheVariants.{FromOne, Join}
use Rattle.mdp_c.specs.declared.options.Options.{Options}
use Rattle.mdp_c.specs.declared.options.Plan.{Plan}

-- options of 24 bytes, with a window from 1 to 65536
abbrev pub are_known : Options → Bool
are_known o = o.size == 24 && o.reserved == 0 && nat_le 1 o.window && nat_le o.window 65536

abbrev pub start_of : ℕ → Option Start
start_of number = if number == 0 then Some FromOne else if number == 1 then Some Join else None

abbrev pub flag_of : ℕ → Option Bool
flag_of number = if number == 0 then Some false else if number == 1 then Some true else None

abbrev pub plan_with : ℕ → Option Start → Option Bool → Option Plan
plan_with window (Some start) (Some keeps) = Some (record { window = window; start = start; keeps_lines = keeps })
plan_with window (Some start) None = None
plan_with window None keeps = None

-- what options say, if every field is in its range
abbrev pub plan_of : Options → Option Plan
plan_of o = if are_known o then plan_with o.window (start_of o.start) (flag_of o.lines) else None
