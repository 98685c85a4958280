-- Which record comes next in the order of the lines.
use Rattle.std.proofs.Common.{◌≡◌, ℕ, Bool, true, false, cond, List, [], ◌∷◌, Option, Some, None, refl, sym, ap, ◌∙◌}
use Rattle.mdp_capture.specs.Record.{RecordContent}
use Rattle.mdp_templates.specs.declared.feed.Feed.{Feed}
use Rattle.mdp_templates.specs.declared.feed.Feed.TheVariants as feeds
use Rattle.mdp_pipeline.specs.Merge.{Arrival, arrivals, by_line, in_order, head_line, is_first, first_of_lines}

-- ---- two lists

abbrev line_of : List Arrival → Option ℕ
line_of [] = None
line_of (x ∷ xs) = Some x.entry.line

by_line-nil : (xs : List Arrival) → by_line xs [] ≡ xs
by_line-nil [] = refl
by_line-nil (x ∷ xs) = refl

by_line_left : (x : Arrival) (xs ys : List Arrival) → is_first (Some x.entry.line) (line_of ys) ≡ true → by_line (x ∷ xs) ys ≡ x ∷ by_line xs ys
by_line_left x xs [] first = ap (λ (t : List Arrival). x ∷ t) (sym (by_line-nil xs))
by_line_left x xs (y ∷ ys) first = ap (λ (b : Bool). cond b (x ∷ by_line xs (y ∷ ys)) (y ∷ by_line (x ∷ xs) ys)) first

by_line_right : (xs : List Arrival) (y : Arrival) (ys : List Arrival) → is_first (line_of xs) (Some y.entry.line) ≡ false → by_line xs (y ∷ ys) ≡ y ∷ by_line xs ys
by_line_right [] y ys later = refl
by_line_right (x ∷ xs) y ys later = ap (λ (b : Bool). cond b (x ∷ by_line xs (y ∷ ys)) (y ∷ by_line (x ∷ xs) ys)) later

lesser_line : (xs ys : List Arrival) (b : Bool) → is_first (line_of xs) (line_of ys) ≡ b → line_of (by_line xs ys) ≡ cond b (line_of xs) (line_of ys)
lesser_line [] ys true is = absurd cc
lesser_line [] ys false is = refl
lesser_line (x ∷ xs) ys true is = ap line_of (by_line_left x xs ys is)
lesser_line (x ∷ xs) [] false is = absurd cc
lesser_line (x ∷ xs) (y ∷ ys) false is = ap line_of (by_line_right (x ∷ xs) y ys is)

-- ---- records of a feed

line-arrivals : (feed : Feed) (rs : List RecordContent) → line_of (arrivals feed rs) ≡ head_line rs
line-arrivals feed [] = refl
line-arrivals feed (r ∷ rs) = refl

-- ---- three lists

not_a : (bs : Bool) → cond bs feeds.B feeds.S ≡ feeds.A → ⊥
not_a true e = absurd cc
not_a false e = absurd cc

not_b : (sa : Bool) → cond sa feeds.A feeds.S ≡ feeds.B → ⊥
not_b true e = absurd cc
not_b false e = absurd cc

first_a : (x : RecordContent) (xs b s : List RecordContent) (ab sa bs : Bool) → is_first (Some x.line) (head_line b) ≡ ab → is_first (Some x.line) (head_line s) ≡ sa
    → cond ab (cond sa feeds.A feeds.S) (cond bs feeds.B feeds.S) ≡ feeds.A → in_order (record { a = x ∷ xs; b = b; s = s }) ≡ (record { feed = feeds.A; entry = x }) ∷ in_order (record { a = xs; b = b; s = s })
first_a x xs b s true true bs before_b before_s found =
    let r : Arrival = record { feed = feeds.A; entry = x } in
    let rest = arrivals feeds.A xs in
    let others = arrivals feeds.B b in
    let snapshots = arrivals feeds.S s in
    ap (λ (t : List Arrival). by_line t snapshots) (by_line_left r rest others (ap (is_first (Some x.line)) (line-arrivals feeds.B b) ∙ before_b))
    ∙ by_line_left r (by_line rest others) snapshots (ap (is_first (Some x.line)) (line-arrivals feeds.S s) ∙ before_s)
first_a x xs b s true false bs before_b before_s found = absurd cc
first_a x xs b s false sa bs before_b before_s found = absurd (not_a bs found)

pub next_is_a : (x : RecordContent) (xs b s : List RecordContent) → first_of_lines (Some x.line) (head_line b) (head_line s) ≡ feeds.A
    → in_order (record { a = x ∷ xs; b = b; s = s }) ≡ (record { feed = feeds.A; entry = x }) ∷ in_order (record { a = xs; b = b; s = s })
next_is_a x xs b s found = first_a x xs b s (is_first (Some x.line) (head_line b)) (is_first (Some x.line) (head_line s)) (is_first (head_line b) (head_line s)) refl refl found

first_b : (a : List RecordContent) (y : RecordContent) (ys s : List RecordContent) (ab sa bs : Bool) → is_first (head_line a) (Some y.line) ≡ ab → is_first (Some y.line) (head_line s) ≡ bs
    → cond ab (cond sa feeds.A feeds.S) (cond bs feeds.B feeds.S) ≡ feeds.B → in_order (record { a = a; b = y ∷ ys; s = s }) ≡ (record { feed = feeds.B; entry = y }) ∷ in_order (record { a = a; b = ys; s = s })
first_b a y ys s true sa bs before_b before_s found = absurd (not_b sa found)
first_b a y ys s false sa true before_b before_s found =
    let r : Arrival = record { feed = feeds.B; entry = y } in
    let others = arrivals feeds.A a in
    let rest = arrivals feeds.B ys in
    let snapshots = arrivals feeds.S s in
    ap (λ (t : List Arrival). by_line t snapshots) (by_line_right others r rest (ap (λ (l : Option ℕ). is_first l (Some y.line)) (line-arrivals feeds.A a) ∙ before_b))
    ∙ by_line_left r (by_line others rest) snapshots (ap (is_first (Some y.line)) (line-arrivals feeds.S s) ∙ before_s)
first_b a y ys s false sa false before_b before_s found = absurd cc

pub next_is_b : (a : List RecordContent) (y : RecordContent) (ys s : List RecordContent) → first_of_lines (head_line a) (Some y.line) (head_line s) ≡ feeds.B
    → in_order (record { a = a; b = y ∷ ys; s = s }) ≡ (record { feed = feeds.B; entry = y }) ∷ in_order (record { a = a; b = ys; s = s })
next_is_b a y ys s found = first_b a y ys s (is_first (head_line a) (Some y.line)) (is_first (head_line a) (head_line s)) (is_first (Some y.line) (head_line s)) refl refl found

-- whichever of two lists goes first, it comes behind this line
behind_both : (line : ℕ) (xs ys : List Arrival) (b : Bool) → is_first (line_of xs) (Some line) ≡ false → is_first (line_of ys) (Some line) ≡ false → is_first (cond b (line_of xs) (line_of ys)) (Some line) ≡ false
behind_both line xs ys true behind_x behind_y = behind_x
behind_both line xs ys false behind_x behind_y = behind_y

pub next_is_s : (a b : List RecordContent) (z : RecordContent) (zs : List RecordContent) → is_first (head_line a) (Some z.line) ≡ false → is_first (head_line b) (Some z.line) ≡ false
    → in_order (record { a = a; b = b; s = z ∷ zs }) ≡ (record { feed = feeds.S; entry = z }) ∷ in_order (record { a = a; b = b; s = zs })
next_is_s a b z zs behind_a behind_b =
    let first = arrivals feeds.A a in
    let second = arrivals feeds.B b in
    let test : Option ℕ → Bool = λ (l : Option ℕ). is_first l (Some z.line) in
    by_line_right (by_line first second) (record { feed = feeds.S; entry = z }) (arrivals feeds.S zs)
    (ap test (lesser_line first second (is_first (line_of first) (line_of second)) refl)
    ∙ behind_both z.line first second (is_first (line_of first) (line_of second)) (ap test (line-arrivals feeds.A a) ∙ behind_a) (ap test (line-arrivals feeds.B b) ∙ behind_b))
