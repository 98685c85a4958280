-- Each step of a lane's end keeps its rule.
use Rattle.std.proofs.Common.{◌≡◌, inl, ℕ, true, List, [], ◌∷◌, ◌++◌, take, drop, sym, refl, subst}
use Rattle.crossbeam_channel.specs.Fifo.{Pushes, Pops, Forks, Merges}
use Rattle.mdp_lanes.specs.Rule.{sender, receiver, first_list, Fits, Delivers}
use Rattle.mdp_lanes.specs.Lanes.{LaneKnowledge, whole, Any, only_right, Puts, Takes}
use Rattle.mdp_lanes.proofs.Members.{at_only}
use Rattle.mdp_lanes.proofs.Steps as step

module _ {T : Type 0} where
  abbrev Rule : List T → List (LaneKnowledge T) → Type 0
  Rule = Delivers whole Any

  pub puts : (room pass : ℕ) (v : LaneKnowledge T) (item : T) → v ≡ sender (only_right (first_list v.rights)) → Pushes Rule room pass v item (Puts v item)
  puts room pass v item is =
      let P : LaneKnowledge T → Type 0 = λ u. Pushes Rule room pass u item (Puts u item) in
      subst P (sym is) (step.sends whole Any room pass tt (first_list v.rights) item item (λ all. refl) (λ j all no. absurd (no refl)) (λ j. inl refl) tt)

  pub takes : (pass : ℕ) (v : LaneKnowledge T) → v ≡ receiver v.taken [] → Pops Rule pass v (Takes v)
  takes pass v is =
      let P : LaneKnowledge T → Type 0 = λ u. Pops Rule pass u (Takes u) in
      subst P (sym is) (λ item queued views h at.
      let kept = step.takes whole Any (λ k xs ys. refl) (λ xs ys any. tt) pass v.taken item queued views h at in (kept.0, kept.1, kept.2.0))

  -- the receiver gives the right to the sender
  pub gives : (pass : ℕ) (v : LaneKnowledge T) → v ≡ receiver [] (only_right [])
      → Forks Rule pass v (receiver v.taken (drop 1 v.rights)) (sender (take 1 v.rights))
  gives pass v is =
      let P : LaneKnowledge T → Type 0 = λ u. Forks Rule pass u (receiver u.taken (drop 1 u.rights)) (sender (take 1 u.rights)) in
      subst P (sym is) (step.forks whole Any (λ i j. true) tt refl (λ j same. refl) pass [] [] [] tt)

  -- the receiver takes the right back
  pub joins : (pass : ℕ) (v : LaneKnowledge T) (from : ℕ) (w : LaneKnowledge T) (taken sent : List T)
      → v ≡ receiver taken [] → w ≡ sender (only_right sent)
      → Merges Rule pass v from w (receiver v.taken (v.rights ++ w.rights)) (sender [])
  joins pass v from w taken sent is its =
      let P : LaneKnowledge T × LaneKnowledge T → Type 0 = λ u. Merges Rule pass u.0 from u.1 (receiver u.0.taken (u.0.rights ++ u.1.rights)) (sender []) in
      subst P (λ i. (sym is i, sym its i)) (step.merges whole Any pass taken [] from (only_right sent))

-- the rule holds of an empty lane whose receiver has the right
pub begins : (T : Type 0) → Delivers (whole {T = T}) Any [] (receiver [] (only_right []) ∷ [])
begins T =
    let all : LaneKnowledge T = receiver [] (only_right []) in
    let fits : Fits (whole {T = T}) 0 (λ _. 0) [] [] 0 all = ((λ _. (refl, refl)), ((refl, refl), tt)) in
    record {
      reader = 0;
      seat = λ _. 0;
      taken = [];
      allowed = λ _. tt;
      fits = λ pass v at. let here = at_only all v pass at in subst (λ (y : ℕ × LaneKnowledge T). Fits (whole {T = T}) 0 (λ _. 0) [] [] y.0 y.1) (λ i. (sym here.0 i, here.1 i)) fits;
    }
