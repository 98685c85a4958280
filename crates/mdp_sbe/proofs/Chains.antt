-- Reading in two steps: where each step has one answer, so have both.
use Rattle.std.proofs.Common.{◌≡◌, ◌⊎◌, ap, subst, ◌∙◌, refl, inl, inr}
use Rattle.mdp_sbe.specs.Answer.{HasOneAnswer}
use Rattle.mdp_sbe.specs.Answer.HasOneAnswer.{is_good, is_refused}
use Rattle.mdp_sbe.specs.declared.refusal.Refusal.{Refusal}

-- A value is read by a first step that gives u and a second that reads on from u; the first refusal is of the first
-- step, or else of the second.
pub record Chains {U V : Type 0} (First : U → Type 0) (FirstRefused : Refusal → Type 0) (Second : U → V → Type 0) (SecondRefused : U → Refusal → Type 0) (IsValue : V → Type 0) (IsRefused : Refusal → Type 0) : Type 0 where
  pub value : (u : U) (v : V) → First u → Second u v → IsValue v
  pub steps : (v : V) → IsValue v → (u : U) × First u × Second u v
  pub early : (r : Refusal) → FirstRefused r → IsRefused r
  pub late : (u : U) (r : Refusal) → First u → SecondRefused u r → IsRefused r
  pub fault : (r : Refusal) → IsRefused r → FirstRefused r ⊎ ((u : U) × First u × SecondRefused u r)

second_good : {U V : Type 0} (First : U → Type 0) (FirstRefused : Refusal → Type 0) (Second : U → V → Type 0) (SecondRefused : U → Refusal → Type 0) (IsValue : V → Type 0) (IsRefused : Refusal → Type 0) → Chains First FirstRefused Second SecondRefused IsValue IsRefused → (u : U) → First u → ((w : U) → First w → w ≡ u) → ((r : Refusal) → FirstRefused r → ⊥) → HasOneAnswer (Second u) (SecondRefused u) → HasOneAnswer IsValue IsRefused
second_good {U} {V} First FirstRefused Second SecondRefused IsValue IsRefused c u first only sound (is_good v second one none) = is_good v (c.value u v first second) same clean
  where
    same : (w : V) → IsValue w → w ≡ v
    same w is =
        let s = c.steps w is in
        one w (subst (λ (x : U). Second x w) (only s.0 s.1) s.2)

    clean : (r : Refusal) → IsRefused r → ⊥
    clean r bad =
        elim (c.fault r bad) [
          | inl early ↦ sound r early
          | inr s ↦ none r (subst (λ (x : U). SecondRefused x r) (only s.0 s.1) s.2)
        ]
second_good {U} {V} First FirstRefused Second SecondRefused IsValue IsRefused c u first only sound (is_refused r refused one none) = is_refused r (c.late u r first refused) same clean
  where
    same : (s : Refusal) → IsRefused s → s ≡ r
    same s bad =
        elim (c.fault s bad) [
          | inl early ↦ absurd (sound s early)
          | inr t ↦ one s (subst (λ (x : U). SecondRefused x s) (only t.0 t.1) t.2)
        ]

    clean : (v : V) → IsValue v → ⊥
    clean v is =
        let s = c.steps v is in
        none v (subst (λ (x : U). Second x v) (only s.0 s.1) s.2)

pub chained : {U V : Type 0} (First : U → Type 0) (FirstRefused : Refusal → Type 0) (Second : U → V → Type 0) (SecondRefused : U → Refusal → Type 0) (IsValue : V → Type 0) (IsRefused : Refusal → Type 0) → Chains First FirstRefused Second SecondRefused IsValue IsRefused → HasOneAnswer First FirstRefused → ((u : U) → First u → HasOneAnswer (Second u) (SecondRefused u)) → HasOneAnswer IsValue IsRefused
chained First FirstRefused Second SecondRefused IsValue IsRefused c (is_good u first only sound) second = second_good First FirstRefused Second SecondRefused IsValue IsRefused c u first only sound (second u first)
chained {U} {V} First FirstRefused Second SecondRefused IsValue IsRefused c (is_refused r refused one none) second = is_refused r (c.early r refused) same clean
  where
    same : (s : Refusal) → IsRefused s → s ≡ r
    same s bad =
        elim (c.fault s bad) [
          | inl early ↦ one s early
          | inr t ↦ absurd (none t.0 t.1)
        ]

    clean : (v : V) → IsValue v → ⊥
    clean v is = let s = c.steps v is in none s.0 s.1

-- a value with something fixed beside it
pub beside : {A B : Type 0} (a : A) (P : B → Type 0) (Q : Refusal → Type 0) → HasOneAnswer P Q → HasOneAnswer (λ (p : A × B). (p.0 ≡ a) × P p.1) Q
beside {A} {B} a P Q (is_good b good one none) = is_good (a, b) (refl, good) (λ p is. pairs p is) none
  where
    pairs : (p : A × B) → (p.0 ≡ a) × P p.1 → p ≡ (a, b)
    pairs p is =
        let make : A → B → A × B = λ x y. (x, y) in
        ap (λ (x : A). make x p.1) is.0 ∙ ap (λ (y : B). make a y) (one p.1 is.1)
beside a P Q (is_refused r refused one none) = is_refused r refused one (λ p is. none p.1 is.1)
