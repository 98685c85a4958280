-- What a window holds ahead of the next number, and what its calls do to it.
use Rattle.std.specs.Prelude.{◌≡◌, ℕ, zero, suc, ◌+◌, ◌-◌, ◌<◌, ◌≤◌, ◌⊎◌, Bool, true, max, nat_lt, ◌==◌, if◌then◌else◌, Option, Some, None, IsSome, refl}
use Rattle.std.specs.Coded.{Coded, code_by, coded×, coded_ℕ}
use Rattle.std.specs.Ordering.{nat_cmp}
use Rattle.std.specs.FinMap.{FinMap, get, contains_key, code}
use Rattle.mdp_window.specs.declared.window.Put.{Put}
use Rattle.mdp_window.specs.declared.window.Put.TheVariants.{Kept, Back, Memory}

-- a window covers as many numbers as its room, from its first on, and holds items under some of them
pub record View (T : Type 0) : Type 0 where
  pub first : ℕ
  pub room : ℕ
  pub held : FinMap nat_cmp T

-- a view is stored as the tuple of its fields
abbrev pub view_code : {T : Type 0} → Coded T → Coded (View T)
view_code {T} c =
    code_by (ℕ × (ℕ × FinMap nat_cmp T)) (coded× coded_ℕ (coded× coded_ℕ (code coded_ℕ c)))
    (λ v. (v.first, (v.room, v.held))) (λ p. record { first = p.0; room = p.1.0; held = p.1.1 }) (λ _. refl)

-- a window's numbers are in range: a packet's are 1 to 4294967295, and the room is 1 to 65536
pub record IsInRange {T : Type 0} (v : View T) : Type 0 where
  pub first_least : 1 ≤ v.first
  pub first_most : v.first ≤ 4294967296
  pub room_least : 1 ≤ v.room
  pub room_most : v.room ≤ 65536
  pub none_below : (k : ℕ) → k < v.first → get v.held k ≡ None
  pub none_past : (k : ℕ) → v.first + v.room ≤ k → get v.held k ≡ None
  pub none_larger : (k : ℕ) → 4294967295 < k → get v.held k ≡ None

module _ {T : Type 0} where
  -- new holds what old holds from a number on, and nothing else
  abbrev pub HoldsFrom : ℕ → FinMap nat_cmp T → FinMap nat_cmp T → Type 0
  HoldsFrom first old new = (k : ℕ) → get new k ≡ (if nat_lt k first then None else get old k)

  -- new holds from a number on what old holds and this item, and nothing else
  abbrev pub HoldsAlso : ℕ → ℕ → T → FinMap nat_cmp T → FinMap nat_cmp T → Type 0
  HoldsAlso first number item old new = (k : ℕ) → get new k
      ≡ (if nat_lt k first then None else (if k == number then Some item else get old k))

  -- What putting an item of this number answers, and does: it comes back exactly where its number is old or held, else
  -- it is kept, but for want of memory. The window moves up just so far that the number is its last.
  abbrev pub Puts : Bool → ℕ → T → View T → View T → Put T → Type 0
  Puts allocates number item old new Kept =
      (old.first ≤ number) × (get old.held number ≡ None)
      × (new.first ≡ max old.first (number + 1 - old.room)) × (new.room ≡ old.room)
      × HoldsAlso new.first number item old.held new.held
  Puts allocates number item old new (Back back) = ((number < old.first) ⊎ IsSome (get old.held number)) × (back ≡ item)
      × (new ≡ old)
  Puts allocates number item old new (Memory back) =
      (allocates ≡ true) × (back ≡ item) × (new ≡ old) × (old.first ≤ number) × (get old.held number ≡ None)

  -- what taking the first item answers, and does
  abbrev pub Takes : View T → View T → Option T → Type 0
  Takes old new None = (get old.held old.first ≡ None) × (new ≡ old)
  Takes old new (Some item) = (get old.held old.first ≡ Some item) × (new.first ≡ old.first + 1) × (new.room ≡ old.room)
      × HoldsFrom new.first old.held new.held

  -- what dropping all below a number does
  abbrev pub DropsBelow : ℕ → View T → View T → Type 0
  DropsBelow number old new = (new.first ≡ max old.first number) × (new.room ≡ old.room)
      × HoldsFrom new.first old.held new.held

  -- under how many of so many numbers, from one on, an item is held
  abbrev pub count_held : FinMap nat_cmp T → ℕ → ℕ → ℕ
  count_held held first zero = 0
  count_held held first (suc n) = count_held held first n + (if contains_key held (first + n) then 1 else 0)
