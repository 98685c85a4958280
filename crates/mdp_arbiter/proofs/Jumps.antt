-- The jump that an arbiter makes is the one that is seen.
use Rattle.std.proofs.Common.{◌≡◌, ◌⊎◌, ℕ, zero, suc, inl, inr, ◌+◌, ◌-◌, ◌≤◌, ◌<◌, Bool, cond, true, false, List, [], ◌∷◌, map, refl, arith, ap}
use Rattle.std.specs.Prelude.{max, min, fold, All, Any, leb, not, ◌||◌, Option, None, Some}
use Rattle.std.proofs.lemmas.Bool.{leb-true}
use Rattle.std.proofs.lemmas.Bool.Decides.{leb_tells}
use Rattle.std.proofs.lemmas.List.Elements.{All-cons}
use Rattle.mdp_arbiter.specs.Accepted.{is_closed, highest, accepted_packets, first_of, newest_snapshots}
use Rattle.mdp_templates.specs.Snapshot.{SnapshotContent}
use Rattle.mdp_window.specs.Window.{HoldsFrom}
use Rattle.mdp_arbiter.specs.Machine.{State, passed, jumped, is_lost, are_fresh, snapshots_of, lesser, least_last, jump, LawOfJumps}
use Rattle.mdp_arbiter.specs.Arbiter.{View, is_lost_now}
use Rattle.mdp_arbiter.specs.Moves.{seen_move, Moves}
use Rattle.mdp_arbiter.proofs.Runs.{both, fresh_least, move_is, jump_is, run_ahead}

-- where each is fresh, each is there
pub all_there : (room top : ℕ) (newest : List (Option SnapshotContent)) → are_fresh room top newest ≡ true → newest ≡ map (λ (s : SnapshotContent). Some s) (snapshots_of newest)
all_there room top [] fresh = refl
all_there room top (None ∷ newest) fresh = cc
all_there room top (Some s ∷ newest) fresh = ap (λ t. Some s ∷ t) (all_there room top newest (both (leb top (s.last + room)) (are_fresh room top newest) fresh).1)

seen_jump : (v : View) (least : ℕ) → v.is_closed ≡ false → is_lost_now v ≡ true → are_fresh v.channel.room v.top v.newest ≡ true → least_last (snapshots_of v.newest) ≡ Some least
    → seen_move v ≡ Some (jumped v.next (least + 1) (snapshots_of v.newest))
seen_jump v least opened lost fresh is = rw (opened, lost, fresh, is) refl

same_state : (a b : ℕ) (x y : List (Option SnapshotContent)) (c d : Bool) → a ≡ b → x ≡ y → c ≡ d
    → (let s : State = record { next = a; bases = x; joined = c } in s) ≡ record { next = b; bases = y; joined = d }
same_state a b x y c d p q r = rw (p, q, r) refl

-- a jump takes a number, or it joins
pub goes_on : (joined : Bool) (next room top least : ℕ) → (joined ≡ false → next ≡ 1) → not joined || leb (next + room) top ≡ true → top ≤ least + room → least ≤ 4294967295
    → (next ≤ least + 1) × (4294967296 - (least + 1) + 0 < 4294967296 - next + cond joined 0 1)
goes_on true next room top least first lost past small = let ahead : next + room ≤ top = leb-true _ _ lost in (omega (arith, ahead, past), omega (arith, ahead, past, small))
goes_on false next room top least first lost past small = let one : next ≡ 1 = first refl in (omega (arith, one), omega (arith, one, small))

-- what a jump leaves
pub jumps : (v new : View) (least : ℕ) → v.is_closed ≡ false → is_lost_now v ≡ true → are_fresh v.channel.room v.top v.newest ≡ true → least_last (snapshots_of v.newest) ≡ Some least
    → (v.joined ≡ false → v.next ≡ 1) → v.top ≤ 4294967295 → least ≤ 4294967295 → new.next ≡ least + 1 → new.joined ≡ true → new.top ≡ max v.top least → new.bases ≡ v.newest → new.channel ≡ v.channel
    → new.is_closed ≡ v.is_closed → new.newest ≡ v.newest → HoldsFrom (least + 1) v.held new.held → Moves (seen_move v) v new
jumps v new least opened lost fresh is first most small next joined top bases channel shut newest held =
    let past : v.top ≤ least + v.channel.room = fresh_least v.channel.room v.top least v.newest fresh is in
    let on = goes_on v.joined v.next v.channel.room v.top least first lost past small in
    rw (seen_jump v least opened lost fresh is) (record {
      on = omega (arith, next, on.0);
      left = rw (next, joined) on.1;
      joined = joined;
      most = omega (arith, top, most, small);
      state = same_state _ _ _ _ _ _ next (rw bases (all_there v.channel.room v.top v.newest fresh)) joined;
      top = omega (arith, top, next);
      channel = channel;
      is_closed = shut;
      newest = newest;
      held = rw next held;
    })

-- ---- what a jump is

all_fresh : (room top : ℕ) (newest : List (Option SnapshotContent)) → are_fresh room top newest ≡ true → All (λ (s : SnapshotContent). top ≤ s.last + room) (snapshots_of newest)
all_fresh room top [] fresh = λ k d within. absurd (omega (arith, within))
all_fresh room top (None ∷ newest) fresh = cc
all_fresh room top (Some s ∷ newest) fresh =
    let each = both (leb top (s.last + room)) (are_fresh room top newest) fresh in
    All-cons (λ (t : SnapshotContent). top ≤ t.last + room) s (snapshots_of newest) (leb-true _ _ each.0) (all_fresh room top newest each.1)

-- the least is at most each
least_under : (ss : List SnapshotContent) (so_far n : ℕ) → fold lesser (Some so_far) ss ≡ Some n → (n ≤ so_far) × All (λ (s : SnapshotContent). n ≤ s.last) ss
least_under [] so_far n is = (let e : so_far ≡ n = cc in omega (arith, e), λ k d within. absurd (omega (arith, within)))
least_under (s ∷ ss) so_far n is =
    let rest = least_under ss (min so_far s.last) n is in
    (omega (arith, rest.0), All-cons (λ (t : SnapshotContent). n ≤ t.last) s ss (omega (arith, rest.0)) rest.1)

any_later : (P : SnapshotContent → Type 0) (s : SnapshotContent) (ss : List SnapshotContent) → Any P ss → Any P (s ∷ ss)
any_later P s ss at = (suc at.0, at.1, omega (arith, at.2), at.3, at.4)

any_here : (P : SnapshotContent → Type 0) (s : SnapshotContent) (ss : List SnapshotContent) → P s → Any P (s ∷ ss)
any_here P s ss holds = (zero, s, omega arith, refl, holds)

-- the least is one of them
least_among : (ss : List SnapshotContent) (so_far n : ℕ) → fold lesser (Some so_far) ss ≡ Some n → (n ≡ so_far) ⊎ Any (λ (s : SnapshotContent). n ≡ s.last) ss
least_among [] so_far n is = inl cc
least_among (s ∷ ss) so_far n is = elim (least_among ss (min so_far s.last) n is) [
  | inl e ↦ elim (leb_tells so_far s.last) [
    | inl under ↦ inl (omega (arith, e, under.1))
    | inr over ↦ inr (any_here (λ (t : SnapshotContent). n ≡ t.last) s ss (omega (arith, e, over.1)))
  ]
  | inr at ↦ inr (any_later (λ (t : SnapshotContent). n ≡ t.last) s ss at)
]

least_covers : (ss : List SnapshotContent) (n : ℕ) → least_last ss ≡ Some n → All (λ (s : SnapshotContent). n ≤ s.last) ss
least_covers [] n is = cc
least_covers (s ∷ ss) n is = let rest = least_under ss s.last n is in All-cons (λ (t : SnapshotContent). n ≤ t.last) s ss rest.0 rest.1

least_is : (ss : List SnapshotContent) (n : ℕ) → least_last ss ≡ Some n → Any (λ (s : SnapshotContent). n ≡ s.last) ss
least_is [] n is = cc
least_is (s ∷ ss) n is = elim (least_among ss s.last n is) [
  | inl e ↦ any_here (λ (t : SnapshotContent). n ≡ t.last) s ss e
  | inr at ↦ any_later (λ (t : SnapshotContent). n ≡ t.last) s ss at
]

same_jump : (a b c d : ℕ) (xs ys : List SnapshotContent) → jumped a c xs ≡ jumped b d ys → (a ≡ b) × (c ≡ d) × (xs ≡ ys)
same_jump a b c d xs ys e = (cc, cc, cc)

pub law_of_jumps : LawOfJumps
law_of_jumps channel es s old new snapshots is =
    elim (move_is (is_closed es) (is_lost channel es s) (are_fresh channel.room (highest es) (newest_snapshots channel.ids es)) (first_of s.next (accepted_packets es)) (jump s.next (snapshots_of (newest_snapshots channel.ids es))) (jumped old new snapshots) is) [
      | inl t ↦
          let newest = newest_snapshots channel.ids es in
          let by = jump_is s.next (snapshots_of newest) (least_last (snapshots_of newest)) (jumped old new snapshots) t.2 in
          let same = same_jump old s.next new (by.0 + 1) snapshots (snapshots_of newest) by.2 in
          let past : highest es ≤ by.0 + channel.room = fresh_least channel.room (highest es) by.0 newest t.1 by.1 in
          let at = least_is (snapshots_of newest) by.0 by.1 in (
            same.0,
            rw same.2 (record {
              on = λ has. let lost : s.next + channel.room ≤ highest es = run_ahead s.joined (s.next + channel.room) (highest es) has t.0 in omega (arith, same.1, lost, past);
              begun = omega (arith, same.1);
              newest = all_there channel.room (highest es) newest t.1;
              fresh = all_fresh channel.room (highest es) newest t.1;
              covered = λ k d within. omega (arith, same.1, least_covers (snapshots_of newest) by.0 by.1 k d within);
              least = (at.0, at.1, at.2, at.3, omega (arith, same.1, at.4));
            }),
          )
      | inr t ↦ let apart : jumped old new snapshots ≡ passed t.0 = t.2 in absurd cc
    ]
