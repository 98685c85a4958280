-- The recovery machine's moves ascend.
use Rattle.std.proofs.Common.{◌≡◌, ◌≤◌, ℕ, ◌+◌, zero, suc, List, [], ◌∷◌, ◌++◌, length, Option, Some, None, refl, ap, arith}
use Rattle.std.proofs.lemmas.List.{length-map}
use Rattle.mdp_templates.specs.Snapshot.{SnapshotContent}
use Rattle.mdp_templates.specs.declared.instrument.Instrument.{Instrument}
use Rattle.mdp_arbiter.specs.Accepted.{Event, newest_snapshot, highest}
use Rattle.mdp_arbiter.specs.Machine.{Move, State, first_state, next_move, after, after_all, moves, settle, go_on, IsRecovery}
use Rattle.mdp_arbiter.specs.Machine.Move.{passed, jumped}
use Rattle.mdp_arbiter.specs.Channel.{Channel, channel_of}
use Rattle.mdp_arbiter.proofs.Runs.{law_of_passes}
use Rattle.mdp_arbiter.proofs.Jumps.{law_of_jumps}
use Rattle.mdp_reports.specs.RoundLaws.{Ascend, LawOfAscent}

ascend-append : (listed : List Instrument) (ms rest : List Move) (s : State) → Ascend listed s.next ms → Ascend listed (after_all s ms).next rest → Ascend listed s.next (ms ++ rest)
ascend-append listed [] rest s is later = later
ascend-append listed (passed p ∷ ms) rest s is later = (is.0, is.1, ascend-append listed ms rest (after s (passed p)) is.2 later)
ascend-append listed (jumped old new ss ∷ ms) rest s is later = (is.0, ascend-append listed ms rest (after s (jumped old new ss)) is.1 later)

record Made (listed : List Instrument) (s : State) (ms : List Move) : Type 0 where
  ascend : Ascend listed s.next ms
  first : 1 ≤ (after_all s ms).next

many : (listed : List Instrument) (channel : Channel) (es : List Event) (s : State) (new : ℕ) (ss : List SnapshotContent) → length channel.ids ≡ length listed → IsRecovery channel es s new ss → length ss ≡ length listed
many listed channel es s new ss long law =
    let newest = ap length law.newest in
    let of_ids = length-map channel.ids (λ id. newest_snapshot id es) in
    let of_ss = length-map ss (λ (snapshot : SnapshotContent). Some snapshot) in
    omega (arith, newest, of_ids, of_ss, long)

made : (most : ℕ) (listed : List Instrument) (channel : Channel) (es : List Event) (s : State) → length channel.ids ≡ length listed → 1 ≤ s.next → Made listed s (moves most channel es s)
made zero listed channel es s long first = record { ascend = tt; first = first }
made (suc most) listed channel es s long first = by_move (next_move channel es s) refl (λ t from. made most listed channel es t long from)
  where
    by_move : (o : Option Move) → next_move channel es s ≡ o → ((t : State) → 1 ≤ t.next → Made listed t (moves most channel es t))
        → Made listed s (elim o [ None ↦ [] | Some m ↦ m ∷ moves most channel es (after s m) ])
    by_move None is more = record { ascend = tt; first = first }
    by_move (Some (passed p)) is more =
        let law = law_of_passes channel es s p is in
        let rest = more (after s (passed p)) (omega arith) in
        record { ascend = (law.0, first, rest.ascend); first = rest.first }
    by_move (Some (jumped old new ss)) is more =
        let law = (law_of_jumps channel es s old new ss is).1 in
        let rest = more (after s (jumped old new ss)) law.begun in
        record { ascend = (many listed channel es s new ss long law, rest.ascend); first = rest.first }

go_ascends : (listed : List Instrument) (channel : Channel) (past : List Event) (s : State) (es : List Event) → length channel.ids ≡ length listed → 1 ≤ s.next → Ascend listed s.next (go_on channel past s es)
go_ascends listed channel past s [] long first = tt
go_ascends listed channel past s (e ∷ es) long first =
    let here = made (highest (past ++ e ∷ []) + 1) listed channel (past ++ e ∷ []) s long first in
    ascend-append listed (settle channel (past ++ e ∷ []) s) (go_on channel (past ++ e ∷ []) (after_all s (settle channel (past ++ e ∷ []) s)) es) s here.ascend
    (go_ascends listed channel (past ++ e ∷ []) (after_all s (settle channel (past ++ e ∷ []) s)) es long here.first)

pub law_of_ascent : LawOfAscent
law_of_ascent channel es = go_ascends channel.listed (channel_of channel) [] (first_state (channel_of channel)) es (length-map channel.listed (λ (i : Instrument). i.id)) (omega arith)
