-- What the ends of a lane know, and what a put and a take tell them. A lane has one key, under which all is sent.
use Rattle.std.specs.Prelude.{◌≡◌, ⊤, List, [], ◌∷◌, ◌++◌}
use Rattle.mdp_lanes.specs.declared.rule.Knowledge.{Knowledge}
use Rattle.mdp_lanes.specs.Rule.{sender, receiver, first_list}

-- what an end of a lane knows: there is one key
abbrev pub LaneKnowledge : Type 0 → Type 0
LaneKnowledge T = Knowledge ⊤ T T

module _ {T : Type 0} where
  -- of the one key the messages have all
  abbrev pub whole : ⊤ → List T → List T
  whole key messages = messages

  -- anything may be sent
  abbrev pub Any : List T → Type 0
  Any items = ⊤

  -- the right of a lane's sender that has sent these
  abbrev pub only_right : List T → List (⊤ × List T)
  only_right items = (tt, items) ∷ []

  -- a put adds the item to what the sender has sent
  abbrev pub Puts : LaneKnowledge T → T → LaneKnowledge T → Type 0
  Puts v item w = w ≡ sender (only_right (first_list v.rights ++ item ∷ []))

  -- a take adds the item to what was taken
  abbrev pub Takes : LaneKnowledge T → T → LaneKnowledge T → Type 0
  Takes v item w = w ≡ receiver (v.taken ++ item ∷ []) []
