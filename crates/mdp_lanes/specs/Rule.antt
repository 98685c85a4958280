-- The rule of a queue that has one receiver, and one sender for each key.
use Rattle.std.specs.Prelude.{◌≡◌, ℕ, true, false, List, [], ◌∷◌, ◌++◌, ⊤}
use mathlib.Core.Option.{some}
use lib.ListN.{get_elem?}
use Rattle.mdp_lanes.specs.declared.rule.Knowledge.{Knowledge}

-- a fact of each member of a list
abbrev pub Each : {A : Type 0} → (A → Type 0) → List A → Type 0
Each P [] = ⊤
Each P (x ∷ xs) = P x × Each P xs

-- what was sent under the first of these rights
abbrev pub first_list : {K X : Type 0} → List (K × List X) → List X
first_list [] = []
first_list (right ∷ rights) = right.1

module _ {K X M : Type 0} where
  -- a receiver's knowledge: what it has received, and its rights
  abbrev pub receiver : List M → List (K × List X) → Knowledge K X M
  receiver taken rights = record { receives = true; taken = taken; rights = rights }

  -- a sender's knowledge: its rights
  abbrev pub sender : List (K × List X) → Knowledge K X M
  sender rights = record { receives = false; taken = []; rights = rights }

  -- `part k messages` is what these messages have of the key k
  module _ (part : K → List M → List X) where
    -- the end of this pass alone may send under the key, and knows of all messages what was sent under it
    abbrev pub IsRight : (K → ℕ) → ℕ → List M → K × List X → Type 0
    IsRight seat pass messages right = (seat right.0 ≡ pass) × (right.1 ≡ part right.0 messages)

    -- what an end knows is so, where these messages were taken and those are in the queue
    abbrev pub Fits : ℕ → (K → ℕ) → List M → List M → ℕ → Knowledge K X M → Type 0
    Fits reader seat taken queued pass v =
        (v.receives ≡ true → (pass ≡ reader) × (v.taken ≡ taken))
        × Each (IsRight seat pass (taken ++ queued)) v.rights

    -- What was taken and then what the queue holds has, of each key, all that was sent under it, in order: what each
    -- end knows is so of some messages that were taken. What is sent under a key is `Allowed`.
    pub record Delivers (Allowed : List X → Type 0) (queued : List M) (views : List (Knowledge K X M)) : Type 0 where
      pub reader : ℕ
      pub seat : K → ℕ
      pub taken : List M
      pub allowed : (k : K) → Allowed (part k (taken ++ queued))
      pub fits : (pass : ℕ) (v : Knowledge K X M) → get_elem? views pass ≡ some v
          → Fits reader seat taken queued pass v

    -- what a receiver that has the rights of senders learns of what the queue holds
    abbrev pub Accounts : Knowledge K X M → List M → Type 0
    Accounts v queued = Each (λ right. right.1 ≡ part right.0 (v.taken ++ queued)) v.rights
