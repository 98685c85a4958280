-- What is held of moments, one after another.
use Rattle.std.proofs.Common.{◌≡◌, ℕ, Bool, true, false, List, [], ◌∷◌, ◌++◌, map, length, replicate, refl, sym, ap, ◌∙◌, arith}
use Rattle.std.proofs.lemmas.List.Concat.{flat_map-append}
use Rattle.std.proofs.lemmas.List.Sums.{fold-append}
use Rattle.mdp_templates.specs.declared.instrument.Instrument.{Instrument}
use Rattle.mdp_desks.specs.Changed.{changed_by, changed_in, changed_through, with_marks}
use Rattle.mdp_desks.specs.Moments.{Moment, at_event_end, at_jump, moment_text}
use Rattle.mdp_engine.specs.Kept.{kept_lines}
use Rattle.mdp_engine.specs.Engine.{Holds, View}

-- ---- lines

pub kept-append : (keeps : Bool) (front more : List Moment) → kept_lines keeps (front ++ more) ≡ kept_lines keeps front ++ kept_lines keeps more
kept-append true front more = flat_map-append moment_text front more
kept-append false front more = refl

pub none_kept : (keeps : Bool) → [] ≡ kept_lines keeps []
none_kept true = refl
none_kept false = refl

-- ---- what an engine holds

-- an engine shows these moments more
pub record ShowsMore (moments : List Moment) (old new : View) : Type 0 where
  pub lines : new.held ≡ old.held ++ kept_lines old.keeps_lines moments
  pub changed : new.changed ≡ changed_through old.changed moments
  pub keeps : new.keeps_lines ≡ old.keeps_lines

pub holds_more : (listed : List Instrument) (others more : List Moment) (old new : View) → Holds listed others old → ShowsMore more old new → Holds listed (others ++ more) new
holds_more listed others more old new holds shows = record {
  lines_are =
      shows.lines ∙ ap (λ (t : List ℕ). t ++ kept_lines old.keeps_lines more) holds.lines_are ∙ sym (kept-append old.keeps_lines others more)
      ∙ ap (λ (b : Bool). kept_lines b (others ++ more)) (sym shows.keeps);
  changed_are =
      shows.changed ∙ ap (λ (marks : List Bool). changed_through marks more) holds.changed_are
      ∙ sym (fold-append changed_by (map (λ _. false) listed) others more);
}

-- an engine's desks and what it holds are another's
pub record IsAsBefore (old new : View) : Type 0 where
  pub desks : new.desks ≡ old.desks
  pub held : new.held ≡ old.held
  pub changed : new.changed ≡ old.changed
  pub keeps : new.keeps_lines ≡ old.keeps_lines

pub as_before : (old new : View) → new ≡ record old { arbiter = new.arbiter } → IsAsBefore old new
as_before old new is = record {
  desks = ap (λ (v : View). v.desks) is;
  held = ap (λ (v : View). v.held) is;
  changed = ap (λ (v : View). v.changed) is;
  keeps = ap (λ (v : View). v.keeps_lines) is;
}

pub holds_as_before : (listed : List Instrument) (others : List Moment) (old new : View) → IsAsBefore old new → Holds listed others old → Holds listed others new
holds_as_before listed others old new same holds = record {
  lines_are = same.held ∙ holds.lines_are ∙ ap (λ (b : Bool). kept_lines b others) (sym same.keeps);
  changed_are = same.changed ∙ holds.changed_are;
}

-- ---- what is let go

none_set : {X : Type 0} (xs : List X) (marks : List Bool) → length marks ≡ length xs → map (λ _. false) marks ≡ map (λ _. false) xs
none_set [] [] many = refl
none_set [] (m ∷ marks) many = absurd cc
none_set (x ∷ xs) [] many = absurd cc
none_set (x ∷ xs) (m ∷ marks) many = ap (λ (bs : List Bool). false ∷ bs) (none_set xs marks (omega (arith, many)))

with_long : (marks others : List Bool) → length (with_marks marks others) ≡ length marks
with_long [] others = refl
with_long (m ∷ marks) [] = refl
with_long (m ∷ marks) (o ∷ others) = omega (arith, with_long marks others)

through_long : (marks : List Bool) (moments : List Moment) → length (changed_through marks moments) ≡ length marks
through_long marks [] = refl
through_long marks (at_event_end end seen ∷ moments) = through_long (changed_by marks (at_event_end end seen)) moments ∙ with_long marks _
through_long marks (at_jump old new ∷ moments) = through_long marks moments

none_long : {X : Type 0} (xs : List X) → length (map (λ _. false) xs) ≡ length xs
none_long [] = refl
none_long (x ∷ xs) = omega (arith, none_long xs)

pub none_changed : (listed : List Instrument) (moments : List Moment) → map (λ _. false) (changed_in listed moments) ≡ changed_in listed []
none_changed listed moments = none_set listed (changed_in listed moments) (through_long (map (λ _. false) listed) moments ∙ none_long listed)

-- so many marks of which none is set
pub none_at_first : {X : Type 0} (xs : List X) (count : ℕ) → count ≡ length xs → replicate count false ≡ map (λ _. false) xs
none_at_first xs count is = ap (λ (n : ℕ). replicate n false) is ∙ each xs
  where
    each : {X : Type 0} (xs : List X) → replicate (length xs) false ≡ map (λ _. false) xs
    each [] = refl
    each (x ∷ xs) = ap (λ (bs : List Bool). false ∷ bs) (each xs)
