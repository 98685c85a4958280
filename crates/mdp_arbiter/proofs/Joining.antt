-- Who joins a channel that is under way moves first by a jump.
use Rattle.std.proofs.Common.{◌≡◌, ◌+◌, inl, inr, true, false, List, [], ◌∷◌, ◌++◌, refl, ◌∙◌}
use Rattle.std.specs.Prelude.{Some}
use Rattle.mdp_templates.specs.Packet.{PacketContent}
use Rattle.mdp_arbiter.specs.Channel.{Channel}
use Rattle.mdp_arbiter.specs.Accepted.{Event, is_closed, accepted_packets, first_of, highest, newest_snapshots}
use Rattle.mdp_arbiter.specs.Machine.{Move, passed, jumped, State, first_state, is_lost, are_fresh, snapshots_of, least_last, jump, next_move, after, after_all, settle, go_on, Settles, BeginWithJump, LawOfJoining}
use Rattle.mdp_arbiter.proofs.Runs.{move_is, jump_is, not_lost, settle_settles}
use Rattle.mdp_arbiter.proofs.Jumps.{law_of_jumps}

-- what has joined stays
joined_stays : (ms : List Move) (s : State) → s.joined ≡ true → (after_all s ms).joined ≡ true
joined_stays [] s has = has
joined_stays (passed p ∷ ms) s has = joined_stays ms (after s (passed p)) has
joined_stays (jumped old new snapshots ∷ ms) s has = joined_stays ms (after s (jumped old new snapshots)) refl

-- before a first jump nothing passes
none_passes : (channel : Channel) (es : List Event) (s : State) (p : PacketContent) → s.joined ≡ false → next_move channel es s ≡ Some (passed p) → ⊥
none_passes channel es s p waits e = elim (move_is (is_closed es) (is_lost channel es s) (are_fresh channel.room (highest es) (newest_snapshots channel.ids es)) (first_of s.next (accepted_packets es)) (jump s.next (snapshots_of (newest_snapshots channel.ids es))) (passed p) e) [
  | inl t ↦ let by = jump_is s.next (snapshots_of (newest_snapshots channel.ids es)) (least_last (snapshots_of (newest_snapshots channel.ids es))) (passed p) t.2 in
      let apart : passed p ≡ jumped s.next (by.0 + 1) (snapshots_of (newest_snapshots channel.ids es)) = by.2 in
      absurd cc
  | inr t ↦ let has : s.joined ≡ true = (not_lost s.joined _ t.3).0 in absurd cc
]

-- these moves begin with a jump, and only where there are none packets may not pass then
abbrev Joins : State → List Move → Type 0
Joins s ms = BeginWithJump ms × ((after_all s ms).joined ≡ false → ms ≡ [])

joins_on : (channel : Channel) (es : List Event) (ms rest : List Move) (s : State) → s.joined ≡ false → s.next ≡ 1 → Settles channel es s ms → (ms ≡ [] → Joins s rest) → Joins s (ms ++ rest)
joins_on channel es [] rest s waits one is later = later refl
joins_on channel es (passed p ∷ ms) rest s waits one is later = absurd (none_passes channel es s p waits is.0)
joins_on channel es (jumped old new snapshots ∷ ms) rest s waits one is later =
    ((law_of_jumps channel es s old new snapshots is.0).0 ∙ one, λ still. absurd (let has = joined_stays (ms ++ rest) (after s (jumped old new snapshots)) refl in cc))

joins : (channel : Channel) (es past : List Event) (s : State) → s.joined ≡ false → s.next ≡ 1 → Joins s (go_on channel past s es)
joins channel [] past s waits one = (tt, λ still. refl)
joins channel (e ∷ es) past s waits one =
    let now = past ++ e ∷ [] in
    let ms = settle channel now s in
    joins_on channel now ms (go_on channel now (after_all s ms) es) s waits one (settle_settles channel now s) (λ none. rw none (joins channel es now s waits one))

pub law_of_joining : LawOfJoining
law_of_joining channel es under_way = joins channel es [] (first_state channel) (rw under_way refl) refl
