-- What a run over a capture has written: all its text, or a front of it.
use Rattle.std.specs.Prelude.{◌≡◌, ◌++◌, ℕ, Bool, true, List}
use Rattle.mdp_capture.specs.Capture.{CaptureContent}
use Rattle.mdp_arbiter.specs.Channel.{ListedChannel}
use Rattle.mdp_arbiter.specs.declared.arbiter.Standing.{Standing}
use Rattle.mdp_pipeline.specs.Merge.{records_of}
use Rattle.mdp_pipeline.specs.Merging.{Tagged, IsByLine}
use Rattle.mdp_pipeline.specs.Output.{Begins, Prints}
use Rattle.mdp_handler.specs.declared.settings.Settings.{Settings}

-- With `--in-order` the merge of what the feeds brought is the one that follows the capture's lines.
abbrev pub IsAskedFor : CaptureContent → Bool → List Tagged → Type 0
IsAskedFor capture in_order merge = in_order ≡ true → IsByLine (records_of capture) merge

-- the channel of a capture's instruments, as the settings set the receiver up
abbrev pub channel_asked : CaptureContent → Settings → ListedChannel
channel_asked capture settings = record { listed = capture.instruments; room = settings.window; start = settings.start }

-- After a run over this capture with these settings, a writer holds, after what it held before, the text of the run:
-- that of some merge of what the feeds brought.
abbrev pub HasPrinted : CaptureContent → Settings → List ℕ → List ℕ → Type 0
HasPrinted capture settings before after =
    (text : List ℕ) × (standing : Standing) × (merge : List Tagged) × (after ≡ before ++ text)
    × IsAskedFor capture settings.in_order merge
    × Prints (channel_asked capture settings) (records_of capture) merge text standing

-- The same where the run ended early, of a front of its text.
abbrev pub HasBegun : CaptureContent → Settings → List ℕ → List ℕ → Type 0
HasBegun capture settings before after =
    (merge : List Tagged) × IsAskedFor capture settings.in_order merge
    × Begins (channel_asked capture settings) (records_of capture) merge before after
