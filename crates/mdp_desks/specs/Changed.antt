-- Which securities' books were printed.
use Rattle.std.specs.Prelude.{List, [], ◌∷◌, Bool, false, ◌||◌, map, fold, Option, Some, None}
use Rattle.mdp_templates.specs.declared.instrument.Instrument.{Instrument}
use Rattle.mdp_desks.specs.Lines.{Seen}
use Rattle.mdp_desks.specs.Moments.{Moment, at_event_end, at_jump}

-- whether the book of what an event end shows is printed
abbrev pub is_seen_printed : Option Seen → Bool
is_seen_printed None = false
is_seen_printed (Some s) = s.printed

-- marks, with those that others set beside them
abbrev pub with_marks : List Bool → List Bool → List Bool
with_marks [] others = []
with_marks (mark ∷ marks) [] = mark ∷ marks
with_marks (mark ∷ marks) (other ∷ others) = (mark || other) ∷ with_marks marks others

-- a mark for each listed security, with those whose book a moment prints; a jump prints none
abbrev pub changed_by : List Bool → Moment → List Bool
changed_by marks (at_event_end end seen) = with_marks marks (map is_seen_printed seen)
changed_by marks (at_jump old new) = marks

-- with those of one moment after another
abbrev pub changed_through : List Bool → List Moment → List Bool
changed_through marks moments = fold changed_by marks moments

-- the listed securities whose books these moments print
abbrev pub changed_in : List Instrument → List Moment → List Bool
changed_in listed moments = changed_through (map (λ _. false) listed) moments
