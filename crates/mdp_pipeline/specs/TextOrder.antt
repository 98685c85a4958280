-- The records that a text's lines bring, one after another as the lines stand there. No number is looked at, so it is
-- the order of the text however many lines it has.
use Rattle.std.specs.Prelude.{List, ◌++◌}
use Rattle.std.specs.List.{flat_map}
use Rattle.mdp_templates.specs.declared.feed.Feed.TheVariants as feeds
use Rattle.mdp_capture.specs.Lines.{NumberedLine, records_on}
use Rattle.mdp_pipeline.specs.Merge.{Arrival, FeedRecords, arrivals}

-- what the lines bring to each feed
abbrev pub records_from : List NumberedLine → FeedRecords
records_from lines =
    record {
      a = flat_map (records_on feeds.A) lines;
      b = flat_map (records_on feeds.B) lines;
      s = flat_map (records_on feeds.S) lines;
    }

-- a line brings one record, on one of the feeds, or none
abbrev pub arrivals_of_line : NumberedLine → List Arrival
arrivals_of_line line =
    arrivals feeds.A (records_on feeds.A line)
    ++ (arrivals feeds.B (records_on feeds.B line) ++ arrivals feeds.S (records_on feeds.S line))

-- what the lines bring, line by line
abbrev pub arrivals_in : List NumberedLine → List Arrival
arrivals_in lines = flat_map arrivals_of_line lines
