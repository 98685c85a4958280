-- Each step of an intake's end keeps its rule.
use Rattle.std.proofs.Common.{◌≡◌, ℕ, ◌+◌, ◌≤◌, Bool, false, cond, List, [], ◌∷◌, ◌++◌, take, drop, sym, refl, subst}
use Rattle.std.specs.List.{list_any}
use Rattle.crossbeam_channel.specs.Fifo.{Pushes, Pops, Forks, Merges, Learns}
use Rattle.mdp_templates.specs.declared.feed.Feed.{Feed}
use Rattle.mdp_lanes.specs.Rule.{sender, receiver, first_list, Each, Fits, Delivers, Accounts}
use Rattle.mdp_lanes.specs.Items.{is_same, items_of, ends_taken, EndsLast}
use Rattle.mdp_lanes.specs.Intakes.{IntakeKnowledge, three_rights, Puts, Takes}
use Rattle.mdp_lanes.proofs.Members.{at_only}
use Rattle.mdp_lanes.proofs.Tagged.{is_itself, only_itself, same_or_not, items_of-append, adds_to_its_tag, adds_to_no_other}
use Rattle.mdp_lanes.proofs.Endings.{front_ends_last, longer_ends_last, longer_has_end, ends_taken-append, three_ends}
use Rattle.mdp_lanes.proofs.Steps as step

module _ {I : Type 0} (is_end : I → Bool) where
  abbrev Rule : List (Feed × I) → List (IntakeKnowledge I) → Type 0
  Rule = Delivers items_of (EndsLast is_end)

  pub puts : (room pass : ℕ) (v : IntakeKnowledge I) (tag : Feed) (x : I)
      → v ≡ sender ((tag, first_list v.rights) ∷ []) → list_any is_end (first_list v.rights) ≡ false → Pushes Rule room pass v (tag, x) (Puts v (tag, x))
  puts room pass v tag x is none =
      let xs : List I = first_list v.rights in
      let P : IntakeKnowledge I → Type 0 = λ u. Pushes Rule room pass u (tag, x) (Puts u (tag, x)) in
      subst P (sym is) (step.sends items_of (EndsLast is_end) room pass tag xs (tag, x) x (adds_to_its_tag tag x) (λ other all no. adds_to_no_other tag x other all no)
      (same_or_not tag) (longer_ends_last is_end xs x none))

  pub takes : (pass : ℕ) (v : IntakeKnowledge I) → v ≡ receiver v.taken [] → Pops Rule pass v (Takes is_end v)
  takes pass v is =
      let P : IntakeKnowledge I → Type 0 = λ u. Pops Rule pass u (Takes is_end u) in
      subst P (sym is) (step.takes items_of (EndsLast is_end) items_of-append (front_ends_last is_end) pass v.taken)

  -- the receiver gives its first right to a sender
  pub gives : (pass : ℕ) (v : IntakeKnowledge I) (tag : Feed) (xs : List I) (rest : List (Feed × List I))
      → v ≡ receiver [] ((tag, xs) ∷ rest) → Each (λ right. is_same right.0 tag ≡ false) rest
      → Forks Rule pass v (receiver v.taken (drop 1 v.rights)) (sender (take 1 v.rights))
  gives pass v tag xs rest is others =
      let P : IntakeKnowledge I → Type 0 = λ u. Forks Rule pass u (receiver u.taken (drop 1 u.rights)) (sender (take 1 u.rights)) in
      subst P (sym is) (step.forks items_of (EndsLast is_end) is_same tag (is_itself tag) (λ other. only_itself other tag) pass [] xs rest others)

  -- the receiver takes the rights of a sender back
  pub joins : (pass : ℕ) (v : IntakeKnowledge I) (from : ℕ) (w : IntakeKnowledge I) (taken : List (Feed × I)) (rights theirs : List (Feed × List I))
      → v ≡ receiver taken rights → w ≡ sender theirs
      → Merges Rule pass v from w (receiver v.taken (v.rights ++ w.rights)) (sender [])
  joins pass v from w taken rights theirs is its =
      let P : IntakeKnowledge I × IntakeKnowledge I → Type 0 = λ u. Merges Rule pass u.0 from u.1 (receiver u.0.taken (u.0.rights ++ u.1.rights)) (sender []) in
      subst P (λ i. (sym is i, sym its i)) (step.merges items_of (EndsLast is_end) pass taken rights from theirs)

  pub learns : (pass : ℕ) (v : IntakeKnowledge I) (taken : List (Feed × I)) (rights : List (Feed × List I))
      → v ≡ receiver taken rights → Learns Rule pass v (Accounts items_of v)
  learns pass v taken rights is =
      let P : IntakeKnowledge I → Type 0 = λ u. Learns Rule pass u (Accounts items_of u) in
      subst P (sym is) (step.learns items_of (EndsLast is_end) pass taken rights)

  -- what a sender knows behind a put
  pub after_put : (v w : IntakeKnowledge I) (tag : Feed) (x : I) → Puts v (tag, x) w → list_any is_end (first_list v.rights) ≡ false
      → (w ≡ sender ((tag, first_list w.rights) ∷ [])) × (list_any is_end (first_list w.rights) ≡ is_end x) × EndsLast is_end (first_list w.rights)
  after_put v w tag x is none =
      let P : IntakeKnowledge I → Type 0 = λ u.
      (u ≡ sender ((tag, first_list u.rights) ∷ [])) × (list_any is_end (first_list u.rights) ≡ is_end x) × EndsLast is_end (first_list u.rights) in
      subst P (sym is) (refl, longer_has_end is_end (first_list v.rights) x none, longer_ends_last is_end (first_list v.rights) x none)

  -- what a receiver knows behind a take
  pub after_take : (v w : IntakeKnowledge I) (m : Feed × I) → Takes is_end v m w
      → (w ≡ receiver w.taken []) × (ends_taken is_end w.taken ≡ ends_taken is_end v.taken + cond (is_end m.1) 1 0) × (ends_taken is_end w.taken ≤ 3)
  after_take v w m is =
      let P : IntakeKnowledge I → Type 0 = λ u.
      (u ≡ receiver u.taken []) × (ends_taken is_end u.taken ≡ ends_taken is_end v.taken + cond (is_end m.1) 1 0) × (ends_taken is_end u.taken ≤ 3) in
      subst P (sym is.0) (refl, ends_taken-append is_end v.taken m, three_ends is_end (v.taken ++ m ∷ []) is.1)

-- the rule holds of an empty intake whose receiver has all rights
pub begins : (I : Type 0) (is_end : I → Bool) → Delivers (items_of {I = I}) (EndsLast is_end) [] (receiver [] three_rights ∷ [])
begins I is_end =
    let all : IntakeKnowledge I = receiver [] three_rights in
    let fits : Fits (items_of {I = I}) 0 (λ _. 0) [] [] 0 all = ((λ _. (refl, refl)), ((refl, refl), ((refl, refl), ((refl, refl), tt)))) in
    record {
      reader = 0;
      seat = λ _. 0;
      taken = [];
      allowed = λ _. refl;
      fits = λ pass v at.
          let here = at_only all v pass at in
          subst (λ (y : ℕ × IntakeKnowledge I). Fits (items_of {I = I}) 0 (λ _. 0) [] [] y.0 y.1) (λ i. (sym here.0 i, here.1 i)) fits;
    }
