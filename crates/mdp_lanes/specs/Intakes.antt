-- What the ends of an intake know, and what a put and a take tell them.
use Rattle.std.specs.Prelude.{◌≡◌, Bool, List, [], ◌∷◌, ◌++◌}
use Rattle.mdp_templates.specs.declared.feed.Feed.{Feed}
use Rattle.mdp_templates.specs.declared.feed.Feed.TheVariants.{A, B, S}
use Rattle.mdp_lanes.specs.declared.rule.Knowledge.{Knowledge}
use Rattle.mdp_lanes.specs.Rule.{sender, receiver, first_list}
use Rattle.mdp_lanes.specs.Items.{items_of, EndsLast}

-- what an end of an intake knows: its keys are the tags, and an item is sent with its tag
abbrev pub IntakeKnowledge : Type 0 → Type 0
IntakeKnowledge I = Knowledge Feed I (Feed × I)

module _ {I : Type 0} where
  -- the rights of an intake's three senders, under which nothing was sent yet
  abbrev pub three_rights : List (Feed × List I)
  three_rights = (A, []) ∷ (B, []) ∷ (S, []) ∷ []

  -- a put adds the item to what the sender has sent under its tag
  abbrev pub Puts : IntakeKnowledge I → Feed × I → IntakeKnowledge I → Type 0
  Puts v m w = w ≡ sender ((m.0, first_list v.rights ++ m.1 ∷ []) ∷ [])

  -- a take adds the item with its tag to what was taken, in which no sender has put anything behind its end
  abbrev pub Takes : (I → Bool) → IntakeKnowledge I → Feed × I → IntakeKnowledge I → Type 0
  Takes is_end v m w =
      (w ≡ receiver (v.taken ++ m ∷ []) []) × ((tag : Feed) → EndsLast is_end (items_of tag (v.taken ++ m ∷ [])))
