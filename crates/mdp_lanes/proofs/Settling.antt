-- What a receiver knows once it has taken in its three senders.
use Rattle.std.proofs.Common.{◌≡◌, Bool, List, [], ◌∷◌, ◌++◌, sym, ◌∙◌, subst}
use Rattle.mdp_templates.specs.declared.feed.Feed.{Feed}
use Rattle.mdp_templates.specs.declared.feed.Feed.TheVariants.{A, B, S}
use Rattle.mdp_lanes.specs.Rule.{sender, receiver, Accounts}
use Rattle.mdp_lanes.specs.Items.{items_of, ends_taken, EndsLast}
use Rattle.mdp_lanes.specs.Intakes.{IntakeKnowledge}
use Rattle.mdp_lanes.proofs.Tagged.{items_of-append}
use Rattle.mdp_lanes.proofs.Endings.{front_ends_last, each_ended, nothing_behind}

module _ {I : Type 0} (is_end : I → Bool) where
  -- the receiver that has taken in a sender
  joined : (v w u v' w' : IntakeKnowledge I) → u ≡ receiver v.taken (v.rights ++ w.rights) → v ≡ v' → w ≡ w' → u ≡ receiver v'.taken (v'.rights ++ w'.rights)
  joined v w u v' w' both is its = both ∙ λ i. receiver (is i).taken ((is i).rights ++ (its i).rights)

  -- what was taken of senders that put nothing behind their ends is all that they sent, where three ends were taken
  settled : (taken queued : List (Feed × I)) (sent : Feed → List I) → ends_taken is_end taken ≡ 3 → ((tag : Feed) → EndsLast is_end (sent tag))
      → ((tag : Feed) → sent tag ≡ items_of tag (taken ++ queued)) → (tag : Feed) → items_of tag taken ≡ sent tag
  settled taken queued sent three ends knows tag =
      let is : (t : Feed) → sent t ≡ items_of t taken ++ items_of t queued = λ t. knows t ∙ items_of-append t taken queued in
      let all : (t : Feed) → EndsLast is_end (items_of t taken ++ items_of t queued) = λ t. subst (EndsLast is_end) (is t) (ends t) in
      let fronts : (t : Feed) → EndsLast is_end (items_of t taken) = λ t. front_ends_last is_end (items_of t taken) (items_of t queued) (all t) in
      sym (is tag ∙ nothing_behind is_end (items_of tag taken) (items_of tag queued) (each_ended is_end taken fronts three tag) (all tag))

  -- the same, where the receiver's pass took in three senders' passes and then looked at the queue
  pub settles : (v wa v₁ wb v₂ ws v₃ : IntakeKnowledge I) (taken : List (Feed × I)) (a b s : List I)
      → v ≡ receiver taken [] → wa ≡ sender ((A, a) ∷ []) → wb ≡ sender ((B, b) ∷ []) → ws ≡ sender ((S, s) ∷ [])
      → v₁ ≡ receiver v.taken (v.rights ++ wa.rights) → v₂ ≡ receiver v₁.taken (v₁.rights ++ wb.rights) → v₃ ≡ receiver v₂.taken (v₂.rights ++ ws.rights)
      → (queued : List (Feed × I)) × Accounts items_of v₃ queued
      → ends_taken is_end taken ≡ 3 → EndsLast is_end a → EndsLast is_end b → EndsLast is_end s
      → (items_of A taken ≡ a) × (items_of B taken ≡ b) × (items_of S taken ≡ s)
  settles v wa v₁ wb v₂ ws v₃ taken a b s is is_a is_b is_s e₁ e₂ e₃ seen three ends_a ends_b ends_s =
      let one = joined v wa v₁ (receiver taken []) (sender ((A, a) ∷ [])) e₁ is is_a in
      let two = joined v₁ wb v₂ (receiver taken ((A, a) ∷ [])) (sender ((B, b) ∷ [])) e₂ one is_b in
      let all = joined v₂ ws v₃ (receiver taken ((A, a) ∷ (B, b) ∷ [])) (sender ((S, s) ∷ [])) e₃ two is_s in
      let P : IntakeKnowledge I → Type 0 = λ u. Accounts items_of u seen.0 in
      let facts : Accounts items_of (receiver taken ((A, a) ∷ (B, b) ∷ (S, s) ∷ [])) seen.0 = subst P all seen.1 in
      let sent : Feed → List I = elim [ A ↦ a | B ↦ b | S ↦ s ] in
      let ends : (tag : Feed) → EndsLast is_end (sent tag) = elim [ A ↦ ends_a | B ↦ ends_b | S ↦ ends_s ] in
      let knows : (tag : Feed) → sent tag ≡ items_of tag (taken ++ seen.0) = elim [ A ↦ facts.0 | B ↦ facts.1.0 | S ↦ facts.1.1.0 ] in
      let each = settled taken seen.0 sent three ends knows in (each A, each B, each S)
