-- What a run comes to, of what the collector met and of what the arbiter tells.
use Rattle.std.proofs.Common.{◌≡◌, ℕ, arith}
use Rattle.std.specs.Prelude.{Result, Ok, Err, IfOk, IfErr}
use Rattle.mdp_arbiter.specs.declared.arbiter.Standing.{Standing}
use Rattle.mdp_crew.specs.declared.fault.RunFault.{RunFault}
use Rattle.mdp_crew.specs.Arbitrating.{IsNextNumber}
use Rattle.mdp_crew.specs.Faults.{FailsBy, written_before}
use Rattle.mdp_crew.specs.Running.{outcome_of}

pub fails_alike : {E : Type 0} (written : ℕ) (collected : Result (Unit {0}) RunFault) (standing : Result Standing E) (before after : ℕ) → FailsBy collected before after → FailsBy (outcome_of written collected standing) before after
fails_alike written (Ok done) (Ok standing) before after is = is
fails_alike written (Ok done) (Err memory) before after is =
    let same : after ≡ before = is in
    omega (arith, same)
fails_alike written (Err fault) standing before after is = is

-- how many bytes went out is told, whichever of the two ended the run
pub told_alike : {E : Type 0} (written all : ℕ) (collected : Result (Unit {0}) RunFault) (standing : Result Standing E) → written ≡ all → IfErr collected (λ (fault : RunFault). written_before fault ≡ all) → IfErr (outcome_of written collected standing) (λ (fault : RunFault). written_before fault ≡ all)
told_alike written all (Ok done) (Ok standing) counted told = tt
told_alike written all (Ok done) (Err memory) counted told = counted
told_alike written all (Err fault) standing counted told = told

-- the number that comes next is one that a packet can have
pub range_of : {E : Type 0} (written : ℕ) (collected : Result (Unit {0}) RunFault) (standing : Result Standing E) → IfOk standing (λ (s : Standing). IsNextNumber s.next) → IfOk (outcome_of written collected standing) (λ (s : Standing). IsNextNumber s.next)
range_of written (Ok done) (Ok standing) is = is
range_of written (Ok done) (Err memory) is = tt
range_of written (Err fault) standing is = tt
