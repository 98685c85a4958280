-- One worker more.
use Rattle.std.proofs.Common.{◌≡◌, ℕ, ◌+◌, List, [], ◌∷◌, ◌++◌, length, refl, sym, ap, ◌∙◌, subst, arith}
use Rattle.std.specs.List.{AllByRecursion, AllZip}
use Rattle.std.proofs.lemmas.List.{length-append}
use Rattle.mdp_lanes.specs.Queues.{LaneSenderView}
use Rattle.mdp_crew.specs.declared.order.Order.{Order}
use Rattle.mdp_crew.specs.declared.crew.Post.{Post}
use Rattle.mdp_crew.specs.Crew.{AreNumbered, IsCrew, IsHired, IsWorker}
use Rattle.mdp_crew.specs.Shares.{WorkerShare}

all_more : {X : Type 0} (F : X → Type 0) (xs : List X) (x : X) → AllByRecursion F xs → F x → AllByRecursion F (xs ++ x ∷ [])
all_more F [] x is one = (one, tt)
all_more F (y ∷ xs) x is one = (is.0, all_more F xs x is.1 one)

module _ {A : Type 0} where
  zip_more : (ss : List (LaneSenderView (Order A))) (ps : List (Post A)) (s : LaneSenderView (Order A)) (p : Post A) → AllZip IsHired ss ps → IsHired s p → AllZip IsHired (ss ++ s ∷ []) (ps ++ p ∷ [])
  zip_more [] [] s p is one = (one, tt)
  zip_more [] (q ∷ ps) s p is one = elim is [ ]
  zip_more (r ∷ ss) [] s p is one = elim is [ ]
  zip_more (r ∷ ss) (q ∷ ps) s p is one = (is.0, zip_more ss ps s p is.1 one)

  numbered_more : (first : WorkerShare) (at : ℕ) (ps : List (Post A)) (p : Post A) → AreNumbered first ps → at ≡ first.number + length ps → IsWorker (record first { number = at }) p.handle.promise → AreNumbered first (ps ++ p ∷ [])
  numbered_more first at [] p is here one = (subst (λ (k : ℕ). IsWorker (record first { number = k }) p.handle.promise) (omega (arith, here)) one, tt)
  numbered_more first at (q ∷ ps) p is here one = (is.0, numbered_more (record first { number = first.number + 1 }) at ps p is.1 (omega (arith, here)) one)

  pub crew_none : (first : WorkerShare) → IsCrew {A = A} first 0 [] []
  crew_none first = record { hired = tt; fresh = (tt, tt); numbered = tt; long = refl }

  pub crew_more : (first : WorkerShare) (many at : ℕ) (ss : List (LaneSenderView (Order A))) (ps : List (Post A)) (s : LaneSenderView (Order A)) (p : Post A) → IsCrew first many ss ps → at ≡ first.number + many
      → (s.sent ≡ []) × (p.answers.taken ≡ []) → IsHired s p → IsWorker (record first { number = at }) p.handle.promise → IsCrew first (many + 1) (ss ++ s ∷ []) (ps ++ p ∷ [])
  crew_more first many at ss ps s p is here fresh hired worker = record {
    hired = zip_more ss ps s p is.hired hired;
    fresh = (all_more (λ (s : LaneSenderView (Order A)). s.sent ≡ []) ss s is.fresh.0 fresh.0, all_more (λ (p : Post A). p.answers.taken ≡ []) ps p is.fresh.1 fresh.1);
    numbered = numbered_more first at ps p is.numbered (here ∙ ap (λ (k : ℕ). first.number + k) (sym is.long)) worker;
    long = length-append ps (p ∷ []) ∙ ap (λ (k : ℕ). k + 1) is.long;
  }
