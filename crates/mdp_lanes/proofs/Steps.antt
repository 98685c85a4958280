-- Each step of an end keeps the rule, whatever the queue holds and the other ends know.
use Rattle.std.proofs.Common.{◌≡◌, ◌≢◌, ℕ, Bool, true, false, true≢false, ◌⊎◌, List, [], ◌∷◌, ◌++◌, length, set, sym, refl, ap, ◌∙◌, subst, ⊎_elim, append_assoc}
use mathlib.Core.Option.{some}
use lib.ListN.{get_elem?}
use Rattle.crossbeam_channel.specs.Fifo.{Pushes, Pops, Forks, Merges, Learns}
use Rattle.atomic_table.proofs.Lists.{at_set}
use Rattle.mdp_lanes.specs.declared.rule.Knowledge.{Knowledge}
use Rattle.mdp_lanes.specs.Rule.{sender, receiver, Each, IsRight, Fits, Delivers, Accounts}
use Rattle.mdp_lanes.proofs.Members.{each_map, each_both, each_append, at_longer}
use Rattle.mdp_lanes.proofs.Seats.{moved, moved_here, moved_there, moved_else, given, given_there, given_else, differs}

module _ {K X M : Type 0} (part : K → List M → List X) (Allowed : List X → Type 0) where
  abbrev Rule : List M → List (Knowledge K X M) → Type 0
  Rule = Delivers part Allowed

  -- what each end knows is so
  abbrev AllFit : ℕ → (K → ℕ) → List M → List M → List (Knowledge K X M) → Type 0
  AllFit reader seat taken queued views =
      (place : ℕ) (u : Knowledge K X M) → get_elem? views place ≡ some u → Fits part reader seat taken queued place u

  -- what each end knows is so, but for that of one pass
  abbrev OthersFit : ℕ → (K → ℕ) → List M → List M → List (Knowledge K X M) → ℕ → Type 0
  OthersFit reader seat taken queued views pass =
      (place : ℕ) (u : Knowledge K X M) → place ≢ pass → get_elem? views place ≡ some u → Fits part reader seat taken queued place u

  -- a fact of the view at a place, told of an equal view at an equal place
  fits_at : (reader : ℕ) (seat : K → ℕ) (taken queued : List M) (pass place : ℕ) (v w : Knowledge K X M)
      → place ≡ pass → v ≡ w → Fits part reader seat taken queued pass v → Fits part reader seat taken queued place w
  fits_at reader seat taken queued pass place v w here same fits =
      subst (λ (at : ℕ × Knowledge K X M). Fits part reader seat taken queued at.0 at.1) (λ i. (sym here i, same i)) fits

  -- where one end's view is replaced by one that fits, and the other ends' views fit, all fit
  stays : (reader : ℕ) (seat : K → ℕ) (taken queued : List M) (views : List (Knowledge K X M)) (pass : ℕ) (w : Knowledge K X M)
      → Fits part reader seat taken queued pass w
      → OthersFit reader seat taken queued views pass
      → AllFit reader seat taken queued (set views pass w)
  stays reader seat taken queued views pass w mine others place u at =
      ⊎_elim (λ (x : (place ≡ pass) × (w ≡ u)). fits_at reader seat taken queued pass place w u x.0 x.1 mine)
      (λ (x : (place ≢ pass) × (get_elem? views place ≡ some u)). others place u x.0 x.1) (at_set views pass place w u at)

  -- a send, of a message that has the item x under the key k and nothing under another
  pub sends : (room pass : ℕ) (k : K) (xs : List X) (m : M) (x : X)
      → ((all : List M) → part k (all ++ m ∷ []) ≡ part k all ++ x ∷ [])
      → ((j : K) (all : List M) → j ≢ k → part j (all ++ m ∷ []) ≡ part j all)
      → ((j : K) → (j ≡ k) ⊎ (j ≢ k))
      → Allowed (xs ++ x ∷ [])
      → Pushes Rule room pass (sender ((k, xs) ∷ [])) m (λ w. w ≡ sender ((k, xs ++ x ∷ []) ∷ []))
  sends room pass k xs m x adds keeps which allowed queued views short h at =
      let w : Knowledge K X M = sender ((k, xs ++ x ∷ []) ∷ []) in
      let before : List M = h.taken ++ queued in
      let after : List M = h.taken ++ (queued ++ m ∷ []) in
      let longer : before ++ m ∷ [] ≡ after = append_assoc h.taken queued (m ∷ []) in
      let mine = h.fits pass (sender ((k, xs) ∷ [])) at in
      let here : h.seat k ≡ pass = mine.1.0.0 in
      let known : xs ≡ part k before = mine.1.0.1 in
      let knows : xs ++ x ∷ [] ≡ part k after = ap (λ (l : List X). l ++ x ∷ []) known ∙ (sym (adds before) ∙ ap (part k) longer) in
      let other : (j : K) → j ≢ k → part j before ≡ part j after = λ j no. sym (keeps j before no) ∙ ap (part j) longer in
      let all_allowed : (j : K) → Allowed (part j after) = λ j.
      ⊎_elim (λ (same : j ≡ k). subst Allowed (knows ∙ ap (λ (i : K). part i after) (sym same)) allowed)
      (λ (no : j ≢ k). subst Allowed (other j no) (h.allowed j)) (which j) in
      let others : OthersFit h.reader h.seat h.taken (queued ++ m ∷ []) views pass = λ place u apart there.
      let theirs = h.fits place u there in (
        theirs.0,
        each_map (IsRight part h.seat place before) (IsRight part h.seat place after)
            (λ right is. (is.0, is.1 ∙ other right.0 (λ same. apart (sym is.0 ∙ (ap h.seat same ∙ here))))) u.rights theirs.1,
      ) in
      let kept : Rule (queued ++ m ∷ []) (set views pass w) = record {
        reader = h.reader;
        seat = h.seat;
        taken = h.taken;
        allowed = all_allowed;
        fits = stays h.reader h.seat h.taken (queued ++ m ∷ []) views pass w ((λ receives. absurd (true≢false (sym receives))), ((here, knows), tt)) others;
      } in
      (w, kept, refl)

  -- a receive: what was taken is allowed too
  pub takes : ((k : K) (xs ys : List M) → part k (xs ++ ys) ≡ part k xs ++ part k ys)
      → ((xs ys : List X) → Allowed (xs ++ ys) → Allowed xs)
      → (pass : ℕ) (taken : List M)
      → Pops Rule pass (receiver taken []) (λ m w. (w ≡ receiver (taken ++ m ∷ []) []) × ((k : K) → Allowed (part k (taken ++ m ∷ []))))
  takes adds closed pass taken m queued views h at =
      let w : Knowledge K X M = receiver (taken ++ m ∷ []) [] in
      let mine = h.fits pass (receiver taken []) at in
      let is : (pass ≡ h.reader) × (taken ≡ h.taken) = mine.0 refl in
      let got : List M = h.taken ++ m ∷ [] in
      let same : got ++ queued ≡ h.taken ++ (m ∷ queued) = append_assoc h.taken (m ∷ []) queued in
      let all_allowed : (k : K) → Allowed (part k (got ++ queued)) = λ k. subst Allowed (ap (part k) (sym same)) (h.allowed k) in
      let front : (k : K) → Allowed (part k (taken ++ m ∷ [])) = λ k.
      subst (λ (l : List M). Allowed (part k (l ++ m ∷ []))) (sym is.1) (closed (part k got) (part k queued) (subst Allowed (adds k got queued) (all_allowed k))) in
      let others : OthersFit h.reader h.seat got queued views pass = λ place u apart there.
      let theirs = h.fits place u there in (
        (λ receives. absurd (apart ((theirs.0 receives).0 ∙ sym is.0))),
        each_map (IsRight part h.seat place (h.taken ++ (m ∷ queued))) (IsRight part h.seat place (got ++ queued))
            (λ right known. (known.0, known.1 ∙ ap (part right.0) (sym same))) u.rights theirs.1,
      ) in
      let kept : Rule queued (set views pass w) = record {
        reader = h.reader;
        seat = h.seat;
        taken = got;
        allowed = all_allowed;
        fits = stays h.reader h.seat got queued views pass w ((λ _. (is.0, ap (λ (l : List M). l ++ m ∷ []) is.1)), tt) others;
      } in
      (w, kept, (refl, front))

  -- what a receiver with rights learns
  pub learns : (pass : ℕ) (taken : List M) (rights : List (K × List X))
      → Learns Rule pass (receiver taken rights) (Accounts part (receiver taken rights))
  learns pass taken rights queued views h at =
      let mine = h.fits pass (receiver taken rights) at in
      let is : (pass ≡ h.reader) × (taken ≡ h.taken) = mine.0 refl in
      each_map (IsRight part h.seat pass (h.taken ++ queued)) (λ right. right.1 ≡ part right.0 (taken ++ queued))
      (λ right known. known.1 ∙ ap (λ (l : List M). part right.0 (l ++ queued)) (sym is.1)) rights mine.1

  -- a receiver takes in the rights of a sender, which has none left
  pub merges : (pass : ℕ) (taken : List M) (rights : List (K × List X)) (from : ℕ) (theirs : List (K × List X))
      → Merges Rule pass (receiver taken rights) from (sender theirs) (receiver taken (rights ++ theirs)) (sender [])
  merges pass taken rights from theirs queued views h at apart at_from =
      let both : Knowledge K X M = receiver taken (rights ++ theirs) in
      let spent : Knowledge K X M = sender [] in
      let gone : Knowledge K X M = sender theirs in
      let all : List M = h.taken ++ queued in
      let seat : K → ℕ = λ k. moved pass from (h.seat k) in
      let mine = h.fits pass (receiver taken rights) at in
      let was : get_elem? views from ≡ some gone =
      ⊎_elim (λ (x : (from ≡ pass) × (both ≡ gone)). absurd (apart x.0)) (λ (x : (from ≢ pass) × (get_elem? views from ≡ some gone)). x.1) (at_set views pass from both gone at_from) in
      let its = h.fits from gone was in
      let joined : Fits part h.reader seat h.taken queued pass both = (
        mine.0,
        each_append (IsRight part seat pass all) rights theirs
            (each_map (IsRight part h.seat pass all) (IsRight part seat pass all) (λ right is. (moved_here pass from (h.seat right.0) is.0, is.1)) rights mine.1)
            (each_map (IsRight part h.seat from all) (IsRight part seat pass all) (λ right is. (moved_there pass from (h.seat right.0) is.0, is.1)) theirs its.1),
      ) in
      let others : OthersFit h.reader seat h.taken queued views from = λ place u no there.
      let old = h.fits place u there in
      (old.0, each_map (IsRight part h.seat place all) (IsRight part seat place all) (λ right is. (moved_else pass from (h.seat right.0) place is.0 no, is.1)) u.rights old.1) in
      let fits : AllFit h.reader seat h.taken queued (set (set views pass both) from spent) = λ place u there.
      ⊎_elim (λ (x : (place ≡ from) × (spent ≡ u)). fits_at h.reader seat h.taken queued from place spent u x.0 x.1 ((λ receives. absurd (true≢false (sym receives))), tt))
      (λ (x : (place ≢ from) × (get_elem? (set views pass both) place ≡ some u)).
      ⊎_elim (λ (y : (place ≡ pass) × (both ≡ u)). fits_at h.reader seat h.taken queued pass place both u y.0 y.1 joined)
      (λ (y : (place ≢ pass) × (get_elem? views place ≡ some u)). others place u x.0 y.1)
      (at_set views pass place both u x.1)) (at_set (set views pass both) from place spent u there) in
      record { reader = h.reader; seat = seat; taken = h.taken; allowed = h.allowed; fits = fits }

  -- a receiver gives its first right, to the key k, to a new sender
  module _ (is_same : K → K → Bool) (k : K) (itself : is_same k k ≡ true) (only : (j : K) → is_same j k ≡ true → j ≡ k) where
    pub forks : (pass : ℕ) (taken : List M) (xs : List X) (rest : List (K × List X))
        → Each (λ right. is_same right.0 k ≡ false) rest
        → Forks Rule pass (receiver taken ((k, xs) ∷ rest)) (receiver taken rest) (sender ((k, xs) ∷ []))
    forks pass taken xs rest apart queued views h at =
        let left : Knowledge K X M = receiver taken rest in
        let right : Knowledge K X M = sender ((k, xs) ∷ []) in
        let all : List M = h.taken ++ queued in
        let fewer : List (Knowledge K X M) = set views pass left in
        let new : ℕ = length fewer in
        let seat : K → ℕ = given is_same k new h.seat in
        let mine = h.fits pass (receiver taken ((k, xs) ∷ rest)) at in
        let here : h.seat k ≡ pass = mine.1.0.0 in
        let known : xs ≡ part k all = mine.1.0.1 in
        let lefts : Fits part h.reader seat h.taken queued pass left = (
          mine.0,
          each_both (λ r. is_same r.0 k ≡ false) (IsRight part h.seat pass all) (IsRight part seat pass all)
              (λ r no is. (given_else is_same k new h.seat r.0 no ∙ is.0, is.1)) rest apart mine.1.1,
        ) in
        let others : OthersFit h.reader seat h.taken queued views pass = λ place u no there.
        let old = h.fits place u there in (
          old.0,
          each_map (IsRight part h.seat place all) (IsRight part seat place all)
              (λ r is. (given_else is_same k new h.seat r.0 (differs is_same k only r.0 (λ same. no (sym is.0 ∙ (ap h.seat same ∙ here)))) ∙ is.0, is.1)) u.rights old.1,
        ) in
        let rights : Fits part h.reader seat h.taken queued new right =
        ((λ receives. absurd (true≢false (sym receives))), ((given_there is_same k new h.seat itself, known), tt)) in
        let fits : AllFit h.reader seat h.taken queued (fewer ++ right ∷ []) = λ place u there.
        ⊎_elim (λ (x : get_elem? fewer place ≡ some u). stays h.reader seat h.taken queued views pass left lefts others place u x)
        (λ (x : (place ≡ new) × (right ≡ u)). fits_at h.reader seat h.taken queued new place right u x.0 x.1 rights) (at_longer fewer right u place there) in
        record { reader = h.reader; seat = seat; taken = h.taken; allowed = h.allowed; fits = fits }
