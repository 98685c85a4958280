-- Answers that a refusal ends, and what a fault says.
use Rattle.std.specs.Prelude.{Result, Ok, Err}
use Rattle.mdp_sbe.specs.declared.refusal.Refusal.{Refusal}
use Rattle.mdp_templates.specs.declared.fault.Fault.{Fault}
use Rattle.mdp_templates.specs.declared.fault.Fault.TheVariants.{Refused, Memory}

-- the next step where there was no refusal, else that refusal: with it `do` takes the first one
infixl 10 ◌>>=◌
abbrev pub ◌>>=◌ : {A B : Type 0} → Result A Refusal → (A → Result B Refusal) → Result B Refusal
(Ok x) >>= next = next x
(Err r) >>= next = Err r

-- what holds of a fault's refusal; want of memory says nothing
abbrev pub OnRefusal : (Refusal → Type 0) → Fault → Type 0
OnRefusal IsRefused (Refused r) = IsRefused r
OnRefusal IsRefused Memory = Unit {0}
