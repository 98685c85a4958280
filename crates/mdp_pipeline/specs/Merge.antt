-- The records of the three feeds in the order of the capture's lines.
use Rattle.std.specs.Prelude.{ℕ, Bool, true, false, nat_le, if◌then◌else◌, List, [], ◌∷◌, map, Option, Some, None}
use Rattle.mdp_capture.specs.Capture.{CaptureContent}
use Rattle.mdp_capture.specs.Record.{RecordContent}
use Rattle.mdp_templates.specs.declared.feed.Feed.{Feed}
use Rattle.mdp_templates.specs.declared.feed.Feed.TheVariants as feeds
use Rattle.mdp_pipeline.specs.declared.feeds.Feeds.{Feeds}

-- the records of the feeds A, B and S, each list in the order of the capture's lines
pub record FeedRecords : Type 0 where
  pub a : List RecordContent
  pub b : List RecordContent
  pub s : List RecordContent

abbrev pub records_of : CaptureContent → FeedRecords
records_of capture = record { a = capture.a; b = capture.b; s = capture.s }

abbrev pub records_in : {A : Type 0} → Feeds A → FeedRecords
records_in lent = record { a = lent.a.now; b = lent.b.now; s = lent.s.now }

-- a record, and the feed that it came on
pub record Arrival : Type 0 where
  pub feed : Feed
  pub entry : RecordContent

abbrev pub arrival_on : Feed → RecordContent → Arrival
arrival_on feed entry = record { feed = feed; entry = entry }

abbrev pub arrivals : Feed → List RecordContent → List Arrival
arrivals feed records = map (arrival_on feed) records

-- turn by turn the first record of that list whose first record has the lesser line; of equal lines
-- the first list's
abbrev pub by_line : List Arrival → List Arrival → List Arrival
by_line [] ys = ys
by_line (x ∷ xs) [] = x ∷ xs
by_line (x ∷ xs) (y ∷ ys) =
    if nat_le x.entry.line y.entry.line then x ∷ by_line xs (y ∷ ys) else y ∷ by_line (x ∷ xs) ys

-- of equal lines feed A's record, then B's, then S's
abbrev pub in_order : FeedRecords → List Arrival
in_order records =
    by_line (by_line (arrivals feeds.A records.a) (arrivals feeds.B records.b))
    (arrivals feeds.S records.s)

-- ---- which list goes first

abbrev pub head_line : List RecordContent → Option ℕ
head_line [] = None
head_line (entry ∷ rest) = Some entry.line

abbrev pub is_first : Option ℕ → Option ℕ → Bool
is_first None other = false
is_first (Some line) None = true
is_first (Some line) (Some other) = nat_le line other

-- the feed whose first record is the next, S where there is none
abbrev pub first_of_lines : Option ℕ → Option ℕ → Option ℕ → Feed
first_of_lines a b s =
    if is_first a b
    then (if is_first a s then feeds.A else feeds.S)
    else (if is_first b s then feeds.B else feeds.S)

abbrev pub first_feed : FeedRecords → Feed
first_feed records =
    first_of_lines (head_line records.a) (head_line records.b) (head_line records.s)
