-- What the fault of a run says of the writer.
use Rattle.std.specs.Prelude.{◌≡◌, ℕ, ◌+◌, Result, Ok, Err}
use Rattle.mdp_crew.specs.declared.fault.RunFault.{RunFault}
use Rattle.mdp_crew.specs.declared.fault.RunFault.TheVariants.{Memory, Output}

-- how many bytes went out before a run ended early
abbrev pub written_before : RunFault → ℕ
written_before (Memory written) = written
written_before (Output written) = written

-- one write failed where the fault is the writer's, and none otherwise
abbrev pub failed_writes : RunFault → ℕ
failed_writes (Memory written) = 0
failed_writes (Output written) = 1

-- how many writes failed more than before
abbrev pub FailsBy : {T : Type 0} → Result T RunFault → ℕ → ℕ → Type 0
FailsBy (Ok x) before after = after ≡ before
FailsBy (Err fault) before after = after ≡ before + failed_writes fault
