-- The items of a tag, as messages come behind one another.
use Rattle.std.proofs.Common.{◌≡◌, ◌≢◌, ◌⊎◌, inl, inr, Bool, true, false, true≢false, cond, List, [], ◌∷◌, ◌++◌, sym, refl, ap, ◌∙◌}
use Rattle.std.proofs.lemmas.List.{append-nil}
use Rattle.mdp_templates.specs.declared.feed.Feed.{Feed}
use Rattle.mdp_templates.specs.declared.feed.Feed.TheVariants.{A, B, S}
use Rattle.mdp_lanes.specs.Items.{is_same, items_of}
use Rattle.mdp_lanes.proofs.Seats.{differs}

pub is_itself : (tag : Feed) → is_same tag tag ≡ true
is_itself A = refl
is_itself B = refl
is_itself S = refl

pub only_itself : (other tag : Feed) → is_same other tag ≡ true → other ≡ tag
only_itself A A e = refl
only_itself A B e = absurd (true≢false (sym e))
only_itself A S e = absurd (true≢false (sym e))
only_itself B A e = absurd (true≢false (sym e))
only_itself B B e = refl
only_itself B S e = absurd (true≢false (sym e))
only_itself S A e = absurd (true≢false (sym e))
only_itself S B e = absurd (true≢false (sym e))
only_itself S S e = refl

pub is_other : (tag other : Feed) → other ≢ tag → is_same other tag ≡ false
is_other tag other apart = differs is_same tag (λ t. only_itself t tag) other apart

-- two tags are the same, or not
pub same_or_not : (tag other : Feed) → (other ≡ tag) ⊎ (other ≢ tag)
same_or_not tag other =
    let at : (b : Bool) → is_same other tag ≡ b → (other ≡ tag) ⊎ (other ≢ tag) = elim [
      | true ↦ λ e. inl (only_itself other tag e)
      | false ↦ λ e. inr (λ (is : other ≡ tag). true≢false (sym (is_itself tag) ∙ (ap (λ (t : Feed). is_same t tag) (sym is) ∙ e)))
    ] in at (is_same other tag) refl

module _ {I : Type 0} where
  pub items_of-append : (tag : Feed) (xs ys : List (Feed × I)) → items_of tag (xs ++ ys) ≡ items_of tag xs ++ items_of tag ys
  items_of-append tag [] ys = refl
  items_of-append tag (m ∷ xs) ys =
      elim (is_same tag m.0) as (λ b. cond b (m.1 ∷ items_of tag (xs ++ ys)) (items_of tag (xs ++ ys)) ≡ cond b (m.1 ∷ items_of tag xs) (items_of tag xs) ++ items_of tag ys)
      [ true ↦ ap (λ (l : List I). m.1 ∷ l) (items_of-append tag xs ys) | false ↦ items_of-append tag xs ys ]

  -- a message adds its item to the items of its tag
  pub adds_to_its_tag : (tag : Feed) (x : I) (all : List (Feed × I)) → items_of tag (all ++ (tag, x) ∷ []) ≡ items_of tag all ++ x ∷ []
  adds_to_its_tag tag x all = items_of-append tag all ((tag, x) ∷ []) ∙ ap (λ (b : Bool). items_of tag all ++ cond b (x ∷ []) []) (is_itself tag)

  -- and nothing to those of another
  pub adds_to_no_other : (tag : Feed) (x : I) (other : Feed) (all : List (Feed × I)) → other ≢ tag → items_of other (all ++ (tag, x) ∷ []) ≡ items_of other all
  adds_to_no_other tag x other all apart =
      items_of-append other all ((tag, x) ∷ []) ∙ (ap (λ (b : Bool). items_of other all ++ cond b (x ∷ []) []) (is_other tag other apart) ∙ append-nil (items_of other all))
