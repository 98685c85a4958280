-- What stands in front of a base changes no mark.
use Rattle.std.proofs.Common.{◌≡◌, ◌≤◌, ◌<◌, ℕ, ℤ, Bool, true, false, cond, List, [], ◌∷◌, ◌++◌, take, refl, sym, ap, ◌∙◌, arith, inl, inr}
use Rattle.std.specs.Prelude.{◌||◌, ◌&&◌, not, nat_le, fold}
use Rattle.std.proofs.lemmas.Bool.{cases_Bool}
use Rattle.std.proofs.lemmas.Bool.Decides.{nat_tests}
use Rattle.std.proofs.lemmas.List.Sums.{fold-append}
use Rattle.mdp_books.specs.Feed.{Sent, sent_by, since_end, touches, has_end, behind}
use Rattle.mdp_desks.specs.Due.{is_due}
use Rattle.mdp_engine.specs.Marks.{LawOfMarks}
use Rattle.mdp_engine.proofs.Fronts.{sent_by-split, behind-front}

or_true : (b : Bool) → (b || true) ≡ true
or_true true = refl
or_true false = refl

-- the messages behind the last event end, after one more
abbrev pending_after : List Sent → Sent → List Sent
pending_after pending m = cond m.end [] (pending ++ m ∷ [])

-- they don't depend on what stood before an event end
forgets_more : (h a b : List Sent) (m : Sent) (e : Bool) → ((x y : List Sent) → has_end h ≡ true → fold pending_after x h ≡ fold pending_after y h) → (e || has_end h) ≡ true
    → fold pending_after (cond e [] (a ++ m ∷ [])) h ≡ fold pending_after (cond e [] (b ++ m ∷ [])) h
forgets_more h a b m true later is = refl
forgets_more h a b m false later is = later (a ++ m ∷ []) (b ++ m ∷ []) is

end_forgets : (h a b : List Sent) → has_end h ≡ true → fold pending_after a h ≡ fold pending_after b h
end_forgets [] a b has = absurd cc
end_forgets (m ∷ h) a b has = forgets_more h a b m m.end (end_forgets h) has

-- an event end was heard since, or the first one after the jump is owed
same_mark : (id : ℤ) (head h : List Sent) (jumped : Bool) → (jumped ≡ false → head ≡ []) → is_due id jumped h ≡ (touches id (since_end (head ++ h)) || (jumped && not (has_end h)))
same_mark id head h jumped start = by_end (has_end h) refl jumped start
  where
    by_end : (e : Bool) → has_end h ≡ e → (j : Bool) → (j ≡ false → head ≡ []) → (touches id (since_end h) || (j && not e)) ≡ (touches id (since_end (head ++ h)) || (j && not e))
    by_end true has j start = ap (λ (t : List Sent). touches id t || (j && false)) (sym (fold-append pending_after [] head h ∙ end_forgets h (fold pending_after [] head) [] has))
    by_end false has true start = or_true (touches id (since_end h)) ∙ sym (or_true (touches id (since_end (head ++ h))))
    by_end false has false start = ap (λ (t : List Sent). touches id (since_end (t ++ h)) || false) (sym (start refl))

-- a front that ends before the base: nothing was heard, and there was a jump
none_heard : (id : ℤ) (all h : List Sent) (jumped : Bool) → h ≡ [] → (jumped ≡ false → all ≡ []) → is_due id jumped h ≡ (touches id (since_end all) || (jumped && not (has_end h)))
none_heard id all h true none start = ap (is_due id true) none ∙ sym (ap (λ (t : List Sent). touches id (since_end all) || not (has_end t)) none ∙ or_true (touches id (since_end all)))
none_heard id all h false none start = ap (is_due id false) none ∙ ap (λ (t : List Sent). touches id (since_end t) || false) (sym (start refl))

pub marks_are_the_feeds : LawOfMarks
marks_are_the_feeds feed i n complete start =
    elim (cases_Bool (nat_le i.base n)) [ inl over ↦ reached (grind (arith, nat_tests, over)) | inr under ↦ before (grind (arith, nat_tests, under)) ]
  where
    all : List Sent
    all = sent_by (take n feed)

    reached : i.base ≤ n → is_due i.instrument.id i.jumped (behind i.base all) ≡ (touches i.instrument.id (since_end all) || (i.jumped && not (has_end (behind i.base all))))
    reached over =
        same_mark i.instrument.id (sent_by (take i.base feed)) (behind i.base all) i.jumped (λ never. ap (λ (b : ℕ). sent_by (take b feed)) (start never))
        ∙ ap (λ (t : List Sent). touches i.instrument.id (since_end t) || (i.jumped && not (has_end (behind i.base all)))) (sym (sent_by-split feed i.base n complete over))

    before : n < i.base → is_due i.instrument.id i.jumped (behind i.base all) ≡ (touches i.instrument.id (since_end all) || (i.jumped && not (has_end (behind i.base all))))
    before under =
        none_heard i.instrument.id all (behind i.base all) i.jumped (behind-front feed i.base n complete (omega (arith, under)))
        (λ never. let zero_base = start never in absurd (omega (arith, under, zero_base)))
