-- A run over a whole capture prints what its settings ask for.
use Rattle.std.proofs.Common.{◌≡◌, ◌++◌, ◌∙◌, ℕ, List, true, false, subst, sym}
use Rattle.mdp_templates.specs.declared.instrument.Instrument.{Instrument}
use Rattle.mdp_capture.specs.Capture.{CaptureContent}
use Rattle.mdp_arbiter.specs.Channel.{ListedChannel}
use Rattle.mdp_arbiter.specs.declared.arbiter.Standing.{Standing}
use Rattle.mdp_pipeline.specs.Merge.{FeedRecords, records_of}
use Rattle.mdp_pipeline.specs.Output.{BeginsByLine, BeginsMerge, PrintsByLine, PrintsMerge}
use Rattle.mdp_handler.specs.Printed.{HasBegun, HasPrinted}
use Rattle.mdp_handler.specs.declared.settings.Settings.{Settings}

-- the channel of these instruments
abbrev channel_over : List Instrument → Settings → ListedChannel
channel_over listed settings = record { listed = listed; room = settings.window; start = settings.start }

-- what is said of instruments and of records holds of those that are the same
same_run : (P : List Instrument → FeedRecords → Type 0) (lent listed : List Instrument) (given came : FeedRecords)
    → lent ≡ listed → given ≡ came → P lent given → P listed came
same_run P lent listed given came listed_are came_are is =
    subst (λ (r : FeedRecords). P listed r) came_are (subst (λ (i : List Instrument). P i given) listed_are is)

module _ (capture : CaptureContent) (settings : Settings) (before after : List ℕ) (lent : List Instrument) (given : FeedRecords)
    (listed_are : lent ≡ capture.instruments) (came_are : given ≡ records_of capture) where
  -- a run over threads prints some merge, and is asked for none
  pub merge_printed : (standing : Standing) → settings.in_order ≡ false
      → (text : List ℕ) × (after ≡ before ++ text) × PrintsMerge (channel_over lent settings) given text standing
      → HasPrinted capture settings before after
  merge_printed standing threads is =
      let prints = same_run (λ i r. PrintsMerge (channel_over i settings) r is.0 standing) lent capture.instruments given (records_of capture) listed_are came_are is.2 in
      (is.0, standing, prints.0, is.1, (λ asked. absurd (let both : true ≡ false = sym asked ∙ threads in cc)), prints.1)

  pub merge_begun : settings.in_order ≡ false → BeginsMerge (channel_over lent settings) given before after → HasBegun capture settings before after
  merge_begun threads is =
      let begins = same_run (λ i r. BeginsMerge (channel_over i settings) r before after) lent capture.instruments given (records_of capture) listed_are came_are is in
      (begins.0, (λ asked. absurd (let both : true ≡ false = sym asked ∙ threads in cc)), begins.1)

  -- a run on one thread prints the merge that follows the lines
  pub lines_printed : (standing : Standing)
      → (text : List ℕ) × (after ≡ before ++ text) × PrintsByLine (channel_over lent settings) given text standing
      → HasPrinted capture settings before after
  lines_printed standing is =
      let prints = same_run (λ i r. PrintsByLine (channel_over i settings) r is.0 standing) lent capture.instruments given (records_of capture) listed_are came_are is.2 in
      (is.0, standing, prints.0, is.1, (λ _. prints.1), prints.2)

  pub lines_begun : BeginsByLine (channel_over lent settings) given before after → HasBegun capture settings before after
  lines_begun is =
      let begins = same_run (λ i r. BeginsByLine (channel_over i settings) r before after) lent capture.instruments given (records_of capture) listed_are came_are is in
      (begins.0, (λ _. begins.1), begins.2)
