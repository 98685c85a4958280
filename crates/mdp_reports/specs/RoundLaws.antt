-- What n workers report, joined in slot order and audited by what was kept, is what the moves show.
use Rattle.std.specs.Prelude.{◌≡◌, ◌≢◌, ◌≤◌, ℕ, ◌+◌, List, [], ◌∷◌, ◌++◌, length, map, ⊤}
use Rattle.std.specs.List.{AllPairs, flat_map}
use Rattle.mdp_templates.specs.declared.instrument.Instrument.{Instrument}
use Rattle.mdp_templates.specs.Packet.{PacketContent}
use Rattle.mdp_arbiter.specs.Accepted.{Event}
use Rattle.mdp_arbiter.specs.Machine.{Move, moves_of}
use Rattle.mdp_arbiter.specs.Machine.Move.{passed, jumped}
use Rattle.mdp_templates.specs.Instrument.{ids_of}
use Rattle.mdp_arbiter.specs.Channel.{ListedChannel}
use Rattle.mdp_engine.specs.Owed.{numbered_moves}
use Rattle.mdp_engine.specs.Owed.{lines}
use Rattle.mdp_engine.specs.Honest.{IsHonest}
use Rattle.mdp_desks.specs.Moments.{Moment, moments, moments_by, shown_lines}
use Rattle.mdp_desks.specs.Reports.{Report}
use Rattle.mdp_reports.specs.Rounds.{collected_text, round_of}
use Rattle.mdp_reports.specs.Rounds.{batch_of, all_rounds_in}

-- packets pass in number order, from `next` on, also behind a jump, which has a snapshot of each listed security
abbrev pub Ascend : List Instrument → ℕ → List Move → Type 0
Ascend listed next [] = ⊤
Ascend listed next (passed packet ∷ moves) = (packet.number ≡ next) × (1 ≤ next) × Ascend listed (next + 1) moves
Ascend listed next (jumped old new snapshots ∷ moves) = (length snapshots ≡ length listed) × Ascend listed new moves

-- whatever the number of workers, their reports give what the moves show
abbrev pub LawOfWorkers : Type 0
LawOfWorkers =
    (n : ℕ) (listed : List Instrument) (moves : List Move) → 1 ≤ n → AllPairs (λ a b. a ≢ b) (ids_of listed)
    → Ascend listed 1 moves
    → collected_text listed (map (round_of n) (moments listed moves)) ≡ shown_lines listed moves

-- the recovery machine's moves ascend, whatever came
abbrev pub LawOfAscent : Type 0
LawOfAscent = (channel : ListedChannel) (es : List Event) → Ascend channel.listed 1 (moves_of channel es)

-- batches of reports are the rounds of all their moments, however the moments are cut into batches
abbrev pub LawOfBatches : Type 0
LawOfBatches =
    (n : ℕ) (batches : List (List Moment)) → 1 ≤ n
    → all_rounds_in (map (batch_of n) batches) ≡ map (round_of n) (flat_map (λ (ms : List Moment). ms) batches)

-- what is made of the first rounds begins what is made of all
abbrev pub LawOfFirstRounds : Type 0
LawOfFirstRounds =
    (listed : List Instrument) (rounds more : List (List Report)) → (rest : List ℕ)
    × (collected_text listed (rounds ++ more) ≡ collected_text listed rounds ++ rest)

-- Whatever the number of workers and however their reports are cut into batches, of events that agree with a complete
-- feed the text is that which the feed owes.
abbrev pub LawOfRuns : Type 0
LawOfRuns =
    (n : ℕ) (channel : ListedChannel) (feed : List PacketContent) (es : List Event) (batches : List (List Moment))
    → 1 ≤ n → AllPairs (λ a b. a ≢ b) (ids_of channel.listed) → IsHonest channel.listed feed es
    → moments channel.listed (moves_of channel es) ≡ flat_map (λ (ms : List Moment). ms) batches
    → collected_text channel.listed (all_rounds_in (map (batch_of n) batches))
    ≡ lines channel.listed feed (numbered_moves (moves_of channel es))

-- the moments of moves that come batch by batch are those of all of them
abbrev pub LawOfCuts : Type 0
LawOfCuts =
    (listed : List Instrument) (batches : List (List Move))
    → flat_map (λ (ms : List Moment). ms) (moments_by listed [] batches)
    ≡ moments listed (flat_map (λ (ms : List Move). ms) batches)
