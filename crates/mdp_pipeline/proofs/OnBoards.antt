-- What a run has published of the events that it took.
use Rattle.std.proofs.Common.{◌≡◌, ℕ, List, ◌++◌, map, refl, sym, ap, ◌∙◌}
use Rattle.std.specs.Prelude.{Option, Some, None, Result, Ok, Err}
use Rattle.mdp_arbiter.specs.Channel.{ListedChannel}
use Rattle.mdp_arbiter.specs.Accepted.{Event}
use Rattle.mdp_lanes.specs.Boards.{Published}
use Rattle.mdp_lanes.specs.declared.step.Step.{Step}
use Rattle.mdp_reports.specs.BoardSteps.{board_steps, step_of_moment}
use Rattle.mdp_engine.proofs.Owing.{law_of_honest_moments}
use Rattle.mdp_crew.specs.Outlets.{out}
use Rattle.mdp_crew.specs.Publishing.{published_on}
use Rattle.mdp_crew.specs.declared.fault.RunFault.{RunFault}
use Rattle.mdp_pipeline.specs.declared.summary.Summary.{Summary}
use Rattle.mdp_pipeline.specs.Output.{BeginsMerge, BeginsToPublishMerge, Ends, PrintsMerge, Publishes, PublishesMerge, SaysAll, SaysSome}
use Rattle.mdp_arbiter.specs.Machine.{moves_of}
use Rattle.mdp_arbiter.specs.declared.arbiter.Standing.{Standing}
use Rattle.mdp_pipeline.specs.Merge.{FeedRecords}

pub publishes : (channel : ListedChannel) (events : List Event) → Publishes channel events (board_steps channel.listed (moves_of channel events))
publishes channel events = record { shown = refl; owed = λ feed honest. ap (map step_of_moment) (law_of_honest_moments channel feed events honest) }

-- ---- what a run says of its text and of its board

module _ (channel : ListedChannel) (records : FeedRecords) (start taken : List ℕ) where
  -- the text alone
  pub prints_alone : (was now : Option Published) (standing : Standing) → SaysAll channel records (out start was) (out taken now) standing
      → (text : List ℕ) × (taken ≡ start ++ text) × PrintsMerge channel records text standing
  prints_alone was now standing says = (says.0, says.2, (says.4.0, says.4.1))

  pub begins_alone : (was now : Option Published) → SaysSome channel records (out start was) (out taken now) → BeginsMerge channel records start taken
  begins_alone was now says = (says.2.0, says.2.1)

  -- a board that was there is there
  same_board : (p q : Published) (now : Option Published) (steps : List Step) → now ≡ Some q → now ≡ published_on (Some p) steps → q ≡ record p { steps = p.steps ++ steps }
  same_board p q now steps some is = let same : Some q ≡ Some (record p { steps = p.steps ++ steps }) = sym some ∙ is in cc

  pub prints_on_board : (p q : Published) (now : Option Published) (standing : Standing) → now ≡ Some q → SaysAll channel records (out start (Some p)) (out taken now) standing
      → (text : List ℕ) × (steps : List Step) × (taken ≡ start ++ text) × (q ≡ record p { steps = p.steps ++ steps }) × PublishesMerge channel records text standing steps
  prints_on_board p q now standing some says = (says.0, says.1, says.2, same_board p q now says.1 some says.3, says.4)

  pub begins_on_board : (p q : Published) (now : Option Published) → now ≡ Some q → SaysSome channel records (out start (Some p)) (out taken now)
      → (steps : List Step) × (q ≡ record p { steps = p.steps ++ steps }) × BeginsToPublishMerge channel records start taken steps
  begins_on_board p q now some says = (says.0, same_board p q now says.0 some says.1, says.2)

  pub board_stays : (p q : Published) (now : Option Published) (outcome : Result Summary RunFault) → now ≡ Some q
      → Ends channel records (out start (Some p)) (out taken now) outcome → q.board ≡ p.board
  board_stays p q now (Ok summary) some ends = ap (λ (r : Published). r.board) (same_board p q now ends.text.1 some ends.text.3)
  board_stays p q now (Err fault) some ends = ap (λ (r : Published). r.board) (same_board p q now ends.begins.0 some ends.begins.1)

  pub board_is_there : (p : Published) (now : Option Published) (outcome : Result Summary RunFault) → now ≡ None
      → Ends channel records (out start (Some p)) (out taken now) outcome → ⊥
  board_is_there p now (Ok summary) none ends = let same : None ≡ published_on (Some p) ends.text.1 = sym none ∙ ends.text.3 in cc
  board_is_there p now (Err fault) none ends = let same : None ≡ published_on (Some p) ends.begins.0 = sym none ∙ ends.begins.1 in cc

  -- and where there was none there is none
  pub no_board : (q : Published) (now : Option Published) (outcome : Result Summary RunFault) → now ≡ Some q
      → Ends channel records (out start None) (out taken now) outcome → ⊥
  no_board q now (Ok summary) some ends = let same : Some q ≡ published_on None ends.text.1 = sym some ∙ ends.text.3 in cc
  no_board q now (Err fault) some ends = let same : Some q ≡ published_on None ends.begins.0 = sym some ∙ ends.begins.1 in cc
