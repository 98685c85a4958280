-- A worker's share of the listed securities.
use Rattle.std.specs.Prelude.{ℕ, List}
use Rattle.mdp_templates.specs.declared.instrument.Instrument.{Instrument}
use Rattle.mdp_crew.specs.declared.share.Share.{Share}

-- of the listed instruments those that worker `number` of so many keeps
pub record WorkerShare : Type 0 where
  pub listed : List Instrument
  pub workers : ℕ
  pub number : ℕ

abbrev pub share_of : List Instrument → ℕ → ℕ → WorkerShare
share_of listed workers number = record { listed = listed; workers = workers; number = number }

abbrev pub share_in : Share → WorkerShare
share_in share = share_of share.listed.now share.workers share.number
