-- The snapshots of a datagram, counted one by one.
use Rattle.std.proofs.Common.{◌≡◌, ℕ, ◌+◌, ◌<◌, List, [], ◌∷◌, ◌++◌, map, take, drop, length, get_or, refl, sym, ap, subst, ◌∙◌, append_assoc, arith}
use Rattle.std.proofs.lemmas.List.{map-append, take_more, drop_more}
use Rattle.mdp_templates.specs.Snapshot.{SnapshotContent}
use Rattle.mdp_templates.specs.declared.instrument.Instrument.{Instrument}
use Rattle.mdp_arbiter.specs.Accepted.{Event, recovered}
use Rattle.mdp_arbiter.specs.Channel.{Channel}
use Rattle.mdp_arbiter.specs.Fates.{snapshot_fate}
use Rattle.mdp_arbiter.specs.Standing.{StandsAt}
use Rattle.mdp_arbiter.specs.declared.fate.SnapshotFate.{SnapshotFate}
use Rattle.mdp_arbiter.specs.declared.fate.SnapshotFate.TheVariants as fates
use Rattle.mdp_desks.specs.Moments.{Moment}
use Rattle.mdp_engine.specs.Engine.{Stands, View}
use Rattle.mdp_receiver.specs.Handling.{GoesOn, TakesSaid}
use Rattle.mdp_receiver.specs.Said.{brings}
use Rattle.mdp_receiver.specs.Taken.{count_all, counts_after, no_counts, taken_by, with_fate}
use Rattle.mdp_receiver.specs.declared.taken.SnapshotCounts.{SnapshotCounts}
use Rattle.mdp_receiver.specs.declared.taken.Taken.TheVariants.{Snapshots}
use Rattle.mdp_receiver.proofs.Going.{goes_more}

-- of these snapshots the first ones are counted: wherever the handler stood at first, the others make of this count what all make of none
abbrev pub AreCounted : List SnapshotContent → ℕ → View → SnapshotCounts → Type 0
AreCounted snapshots i first counts =
    (listed : List Instrument) (before : List Event) (gone : List Moment) → Stands listed before gone first
    → counts_after first.arbiter.channel.ids before (map recovered snapshots) no_counts
    ≡ counts_after first.arbiter.channel.ids (before ++ map recovered (take i snapshots)) (map recovered (drop i snapshots)) counts

pub taken_so : (snapshots : List SnapshotContent) (i : ℕ) → i < length snapshots → (s : SnapshotContent) → s ≡ get_or snapshots i s → map recovered (take i snapshots) ++ recovered s ∷ [] ≡ map recovered (take (i + 1) snapshots)
taken_so snapshots i within s at =
    ap (λ (x : SnapshotContent). map recovered (take i snapshots) ++ recovered x ∷ []) at
    ∙ sym (map-append recovered (take i snapshots) (get_or snapshots i s ∷ []))
    ∙ ap (map recovered) (sym (take_more snapshots i s within))

left_so : (snapshots : List SnapshotContent) (i : ℕ) → i < length snapshots → (s : SnapshotContent) → s ≡ get_or snapshots i s → map recovered (drop i snapshots) ≡ recovered s ∷ map recovered (drop (i + 1) snapshots)
left_so snapshots i within s at =
    ap (map recovered) (drop_more snapshots i s within) ∙ ap (λ (x : SnapshotContent). recovered x ∷ map recovered (drop (i + 1) snapshots)) (sym at)

pub counted_more : (snapshots : List SnapshotContent) (i : ℕ) (s : SnapshotContent) (first now : View) (counts : SnapshotCounts) (fate : SnapshotFate) → i < length snapshots → s ≡ get_or snapshots i s → GoesOn (map recovered (take i snapshots)) first now → ((es : List Event) → StandsAt es now.arbiter → fate ≡ snapshot_fate now.arbiter.channel.ids es s) → AreCounted snapshots i first counts → AreCounted snapshots (i + 1) first (with_fate fate counts)
counted_more snapshots i s first now counts fate within at goes told so_far = λ listed before gone stands.
    let ids = first.arbiter.channel.ids in
    let es = before ++ map recovered (take i snapshots) in
    let here : fate ≡ snapshot_fate ids es s =
    subst (λ (c : Channel). fate ≡ snapshot_fate c.ids es s) goes.channel (told es (goes.stands listed before gone stands).settled.stands) in
    let counted : counts_after ids before (map recovered snapshots) no_counts ≡ counts_after ids es (recovered s ∷ map recovered (drop (i + 1) snapshots)) counts =
    so_far listed before gone stands ∙ ap (λ (more : List Event). counts_after ids es more counts) (left_so snapshots i within s at) in
    let events : es ++ recovered s ∷ [] ≡ before ++ map recovered (take (i + 1) snapshots) =
    append_assoc before (map recovered (take i snapshots)) (recovered s ∷ []) ∙ ap (λ (more : List Event). before ++ more) (taken_so snapshots i within s at) in
    counted
    ∙ ap (λ (f : SnapshotFate). counts_after ids (es ++ recovered s ∷ []) (map recovered (drop (i + 1) snapshots)) (with_fate f counts)) (sym here)
    ∙ ap (λ (xs : List Event). counts_after ids xs (map recovered (drop (i + 1) snapshots)) (with_fate fate counts)) events

pub goes_so : (snapshots : List SnapshotContent) (i : ℕ) (s : SnapshotContent) (first now new : View) → i < length snapshots → s ≡ get_or snapshots i s → GoesOn (map recovered (take i snapshots)) first now → GoesOn (recovered s ∷ []) now new → GoesOn (map recovered (take (i + 1) snapshots)) first new
goes_so snapshots i s first now new within at so_far one =
    subst (λ (es : List Event). GoesOn es first new) (taken_so snapshots i within s at)
    (goes_more (map recovered (take i snapshots)) (recovered s ∷ []) first now new so_far one)

taken_snapshots : (channel : Channel) (es : List Event) (snapshots : List SnapshotContent) → taken_by channel es (map recovered snapshots) ≡ Snapshots (counts_after channel.ids es (map recovered snapshots) no_counts)
taken_snapshots channel es [] = refl
taken_snapshots channel es (s ∷ snapshots) = refl

-- all are counted
pub counted_all : (snapshots : List SnapshotContent) (i : ℕ) (first now : View) (counts : SnapshotCounts) → drop i snapshots ≡ [] → take i snapshots ≡ snapshots → GoesOn (map recovered (take i snapshots)) first now → AreCounted snapshots i first counts → TakesSaid (brings (map recovered snapshots)) (Snapshots counts) first now
counted_all snapshots i first now counts none all goes so_far = record {
  goes = subst (λ (ss : List SnapshotContent). GoesOn (map recovered ss) first now) all goes;
  refused_is = refl;
  taken_is = λ listed before gone stands.
      let es = before ++ map recovered (take i snapshots) in
      let counted : counts_after first.arbiter.channel.ids before (map recovered snapshots) no_counts ≡ counts = so_far listed before gone stands ∙ ap (λ (ss : List SnapshotContent). counts_after first.arbiter.channel.ids es (map recovered ss) counts) none in
      ap (λ (c : SnapshotCounts). Snapshots c) (sym counted) ∙ sym (taken_snapshots first.arbiter.channel before snapshots);
}

-- ---- their number

one_more : (fate : SnapshotFate) (c : SnapshotCounts) → count_all (with_fate fate c) ≡ count_all c + 1
one_more fates.News c = omega arith
one_more fates.Older c = omega arith
one_more fates.Unlisted c = omega arith
one_more fates.AfterClose c = omega arith

pub few_more : (fate : SnapshotFate) (c d : SnapshotCounts) (i : ℕ) → d ≡ with_fate fate c → count_all c ≡ i → count_all d ≡ i + 1
few_more fate c d i is few = ap count_all is ∙ one_more fate c ∙ ap (λ (n : ℕ). n + 1) few
