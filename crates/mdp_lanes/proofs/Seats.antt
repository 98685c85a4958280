-- Which pass has the right to a key, as rights go from pass to pass.
use Rattle.std.proofs.Common.{◌≡◌, ◌≢◌, ℕ, Bool, true, false, cond, eqb, eq-eqb, ne_eqb, sym, refl, ◌∙◌}

-- all rights of the pass `from` go to the pass `to`
pub moved : ℕ → ℕ → ℕ → ℕ
moved to from seat = cond (eqb seat from) to seat

pub moved_there : (to from seat : ℕ) → seat ≡ from → moved to from seat ≡ to
unfolding moved
moved_there to from seat is = rw (eq-eqb seat from is) refl

pub moved_here : (to from seat : ℕ) → seat ≡ to → moved to from seat ≡ to
unfolding moved
moved_here to from seat is = elim (eqb seat from) as (λ b. cond b to seat ≡ to) [ true ↦ refl | false ↦ is ]

pub moved_else : (to from seat other : ℕ) → seat ≡ other → other ≢ from → moved to from seat ≡ other
unfolding moved
moved_else to from seat other is apart = rw (ne_eqb seat from (λ same. apart (sym is ∙ same))) is

module _ {K : Type 0} (is_same : K → K → Bool) (key : K) where
  -- the right to one key goes to the pass `to`
  pub given : ℕ → (K → ℕ) → K → ℕ
  given to seat k = cond (is_same k key) to (seat k)

  pub given_there : (to : ℕ) (seat : K → ℕ) → is_same key key ≡ true → given to seat key ≡ to
  unfolding given
  given_there to seat same = rw same refl

  pub given_else : (to : ℕ) (seat : K → ℕ) (k : K) → is_same k key ≡ false → given to seat k ≡ seat k
  unfolding given
  given_else to seat k apart = rw apart refl

  -- other keys are told apart
  pub differs : ((k : K) → is_same k key ≡ true → k ≡ key) → (k : K) → k ≢ key → is_same k key ≡ false
  differs only k apart =
      let at : (b : Bool) → is_same k key ≡ b → is_same k key ≡ false = elim [ true ↦ λ e. absurd (apart (only k e)) | false ↦ λ e. e ] in
      at (is_same k key) refl
