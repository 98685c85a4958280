-- What went out before an early end: a text that is cut anywhere, and steps that are no further.
use Rattle.std.proofs.Common.{◌≡◌, ℕ, List, [], ◌∷◌, ◌++◌, map, refl, sym, ap, ◌∙◌, append_assoc, ◌⊎◌, inl, inr}
use Rattle.std.proofs.lemmas.List.{append-nil, map-append}
use Rattle.std.proofs.lemmas.List.Concat.{flat_map-append}
use Rattle.mdp_lanes.specs.declared.step.Step.{Step}
use Rattle.mdp_desks.specs.Moments.{Moment, moment_text, text_of_moments}
use Rattle.mdp_reports.specs.BoardSteps.{step_of_moment}
use Rattle.mdp_reports.specs.Behind.{IsBehind, LawOfEarlyEnds, next_text}

-- of two ways to cut one list the first ends no later, or the second does
two_cuts : {X : Type 0} (xs ys us vs : List X) → xs ++ ys ≡ us ++ vs → ((c : List X) × (xs ≡ us ++ c)) ⊎ ((c : List X) × (us ≡ xs ++ c) × (ys ≡ c ++ vs))
two_cuts [] ys us vs is = inr (us, refl, is)
two_cuts (x ∷ xs) ys [] vs is = inl (x ∷ xs, refl)
two_cuts {X} (x ∷ xs) ys (u ∷ us) vs is =
    let first : x ≡ u = cc in
    let rest : xs ++ ys ≡ us ++ vs = cc in
    elim (two_cuts xs ys us vs rest) [
      | inl within ↦ inl (within.0, ap (λ (l : List X). x ∷ l) within.1 ∙ ap (λ (y : X). y ∷ (us ++ within.0)) first)
      | inr past ↦ inr (past.0, ap (λ (l : List X). u ∷ l) past.1 ∙ ap (λ (y : X). y ∷ (xs ++ past.0)) (sym first), past.2)
    ]

-- a beginning of the text of these moments: that of the first ones, and a part of the next one's
record CutAt (ms : List Moment) (sent : List ℕ) : Type 0 where
  pub whole : List Moment
  pub later : List Moment
  pub are : ms ≡ whole ++ later
  pub part : List ℕ
  pub missing : List ℕ
  pub next_is : next_text later [] ≡ part ++ missing
  pub text_is : sent ≡ text_of_moments whole ++ part

cut_text : (ms : List Moment) (sent rest : List ℕ) → text_of_moments ms ≡ sent ++ rest → CutAt ms sent
cut_text [] sent rest is = record { whole = []; later = []; are = refl; part = sent; missing = rest; next_is = is; text_is = refl }
cut_text (m ∷ ms) sent rest is = elim (two_cuts (moment_text m) (text_of_moments ms) sent rest is) [
  | inl within ↦ record { whole = []; later = m ∷ ms; are = refl; part = sent; missing = within.0; next_is = within.1; text_is = refl }
  | inr past ↦
      let at = cut_text ms past.0 rest past.2 in
      record {
        whole = m ∷ at.whole;
        later = at.later;
        are = ap (λ (l : List Moment). m ∷ l) at.are;
        part = at.part;
        missing = at.missing;
        next_is = at.next_is;
        text_is =
            past.1 ∙ ap (λ (t : List ℕ). moment_text m ++ t) at.text_is
            ∙ sym (append_assoc (moment_text m) (text_of_moments at.whole) at.part);
      }
]

cut_steps : (ms : List Moment) (shown hidden : List Step) → map step_of_moment ms ≡ shown ++ hidden
    → (first : List Moment) × (later : List Moment) × (ms ≡ first ++ later) × (shown ≡ map step_of_moment first)
cut_steps ms [] hidden is = ([], ms, refl, refl)
cut_steps [] (s ∷ shown) hidden is = absurd cc
cut_steps (m ∷ ms) (s ∷ shown) hidden is =
    let here : step_of_moment m ≡ s = cc in
    let rest : map step_of_moment ms ≡ shown ++ hidden = cc in
    let at = cut_steps ms shown hidden rest in (
      m ∷ at.0,
      at.1,
      ap (λ (l : List Moment). m ∷ l) at.2,
      ap (λ (x : Step). x ∷ shown) (sym here) ∙ ap (λ (l : List Step). step_of_moment m ∷ l) at.3,
    )

-- nothing went out
pub behind_nothing : (ms : List Moment) (end : List ℕ) → IsBehind ms end [] []
behind_nothing ms end = record {
  published = [];
  written = [];
  later = ms;
  moments_are = refl;
  part = [];
  missing = next_text ms end;
  next_is = refl;
  text_is = refl;
  steps_are = refl;
}

-- all were written, and of their steps a beginning was published
pub behind_in_steps : (ms : List Moment) (shown hidden : List Step) → map step_of_moment ms ≡ shown ++ hidden → IsBehind ms [] (text_of_moments ms) shown
behind_in_steps ms shown hidden is =
    let at = cut_steps ms shown hidden is in
    record {
      published = at.0;
      written = at.1;
      later = [];
      moments_are = at.2 ∙ ap (λ (l : List Moment). at.0 ++ l) (sym (append-nil at.1));
      part = [];
      missing = [];
      next_is = refl;
      text_is = ap text_of_moments at.2 ∙ sym (append-nil (text_of_moments (at.0 ++ at.1)));
      steps_are = at.3;
    }

-- the first ones were written and published, and of the text of the next ones a beginning was written
pub behind_in_text : (first next : List Moment) (sent rest : List ℕ) → text_of_moments next ≡ sent ++ rest
    → IsBehind (first ++ next) [] (text_of_moments first ++ sent) (map step_of_moment first)
behind_in_text first next sent rest is =
    let at = cut_text next sent rest is in
    record {
      published = first;
      written = at.whole;
      later = at.later;
      moments_are = ap (λ (l : List Moment). first ++ l) at.are;
      part = at.part;
      missing = at.missing;
      next_is = at.next_is;
      text_is =
          ap (λ (t : List ℕ). text_of_moments first ++ t) at.text_is
          ∙ sym (append_assoc (text_of_moments first) (text_of_moments at.whole) at.part)
          ∙ ap (λ (t : List ℕ). t ++ at.part) (sym (flat_map-append moment_text first at.whole));
      steps_are = refl;
    }

-- all were written and published, and a part of what stands after their text was written
pub behind_in_end : (ms : List Moment) (part missing : List ℕ) → IsBehind ms (part ++ missing) (text_of_moments ms ++ part) (map step_of_moment ms)
behind_in_end ms part missing = record {
  published = ms;
  written = [];
  later = [];
  moments_are = sym (append-nil ms);
  part = part;
  missing = missing;
  next_is = refl;
  text_is = ap (λ (l : List Moment). text_of_moments l ++ part) (sym (append-nil ms));
  steps_are = refl;
}

next_more : (later more : List Moment) (end part missing : List ℕ) → next_text later [] ≡ part ++ missing → (left : List ℕ) × (next_text (later ++ more) end ≡ part ++ left)
next_more [] more end [] missing is = (next_text more end, refl)
next_more [] more end (x ∷ part) missing is = absurd cc
next_more (m ∷ later) more end part missing is = (missing, is)

-- so it is where more moments come, whatever stands after these
pub behind_more : (ms more : List Moment) (end text : List ℕ) (steps : List Step) → IsBehind ms [] text steps → IsBehind (ms ++ more) end text steps
behind_more ms more end text steps is =
    let next = next_more is.later more end is.part is.missing is.next_is in
    record {
      published = is.published;
      written = is.written;
      later = is.later ++ more;
      moments_are =
          ap (λ (l : List Moment). l ++ more) is.moments_are
          ∙ append_assoc is.published (is.written ++ is.later) more
          ∙ ap (λ (l : List Moment). is.published ++ l) (append_assoc is.written is.later more);
      part = is.part;
      missing = next.0;
      next_is = next.1;
      text_is = is.text_is;
      steps_are = is.steps_are;
    }

-- ---- beginnings of the whole

left_behind : (later : List Moment) (end part missing : List ℕ) → next_text later end ≡ part ++ missing → (rest : List ℕ) × (text_of_moments later ++ end ≡ part ++ rest)
left_behind [] end part missing is = (missing, is)
left_behind (m ∷ later) end part missing is = (
  missing ++ (text_of_moments later ++ end),
  append_assoc (moment_text m) (text_of_moments later) end
      ∙ ap (λ (t : List ℕ). t ++ (text_of_moments later ++ end)) is
      ∙ append_assoc part missing (text_of_moments later ++ end),
)

text_left : (ms : List Moment) (end text : List ℕ) (steps : List Step) → IsBehind ms end text steps → (rest : List ℕ) × (text_of_moments ms ++ end ≡ text ++ rest)
text_left ms end text steps is =
    let gone = is.published ++ is.written in
    let left = left_behind is.later end is.part is.missing is.next_is in (
      left.0,
      ap (λ (l : List Moment). text_of_moments l ++ end) (is.moments_are ∙ sym (append_assoc is.published is.written is.later))
          ∙ ap (λ (t : List ℕ). t ++ end) (flat_map-append moment_text gone is.later)
          ∙ append_assoc (text_of_moments gone) (text_of_moments is.later) end
          ∙ ap (λ (t : List ℕ). text_of_moments gone ++ t) left.1
          ∙ sym (append_assoc (text_of_moments gone) is.part left.0)
          ∙ ap (λ (t : List ℕ). t ++ left.0) (sym is.text_is),
    )

pub law_of_early_ends : LawOfEarlyEnds
law_of_early_ends ms end text steps is = (
  text_left ms end text steps is,
  (
    map step_of_moment (is.written ++ is.later),
    ap (map step_of_moment) is.moments_are
        ∙ map-append step_of_moment is.published (is.written ++ is.later)
        ∙ ap (λ (l : List Step). l ++ map step_of_moment (is.written ++ is.later)) (sym is.steps_are),
  ),
)
