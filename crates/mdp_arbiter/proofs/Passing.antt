-- A packet that passes at once.
use Rattle.std.proofs.Common.{◌≡◌, ℕ, ◌+◌, ◌-◌, ◌≤◌, ◌<◌, Bool, true, false, cond, ltb, eqb, List, [], ◌∷◌, ◌++◌, refl, sym, ap, ◌∙◌, arith}
use Rattle.std.specs.Prelude.{max, leb, ◌&&◌, ◌==◌, nat_lt, Option, None, Some, is_some}
use Rattle.std.proofs.lemmas.Grind.{common_steps}
use Rattle.std.proofs.lemmas.Bool.{lt-leb, false≢true}
use Rattle.std.proofs.lemmas.Bool.Decides.{nat_tests}
use Rattle.mdp_templates.specs.Packet.{PacketContent}
use Rattle.mdp_arbiter.specs.Accepted.{Event, came, is_closed, accepted_packets, highest, highest_of, first_of}
use Rattle.mdp_arbiter.specs.Machine.{next_move}
use Rattle.mdp_arbiter.specs.Machine.Move.{passed}
use Rattle.mdp_arbiter.specs.Arbiter.{View, state}
use Rattle.mdp_arbiter.specs.Packets.{LetsPass, passes_at_once}
use Rattle.mdp_arbiter.specs.Standing.{StandsAt, HasPassed}
use Rattle.mdp_arbiter.proofs.Appended.{packets-came, closed-came, snapshots-came, newest-same, highest-more, first-more, first-apart, first-within}

-- what passes_at_once says
pub record IsFree (number : ℕ) (v : View) : Type 0 where
  pub opened : v.is_closed ≡ false
  pub joined : v.joined ≡ true
  pub next : number ≡ v.next
  pub none : v.top < v.next

pub is_free : (number : ℕ) (v : View) → passes_at_once number v ≡ true → IsFree number v
is_free number v free = by_parts v.is_closed v.joined refl refl
  where
    by_parts : (shut joined : Bool) → v.is_closed ≡ shut → v.joined ≡ joined → IsFree number v
    by_parts true joined c j = absurd (false≢true (rw c at free))
    by_parts false false c j = absurd (false≢true (rw (c, j) at free))
    by_parts false true c j =
        let both : (number == v.next && nat_lt v.top v.next) ≡ true = rw (c, j) at free in
        record { opened = c; joined = j; next = grind (arith, nat_tests, both); none = grind (arith, nat_tests, both) }

-- none came of a number above the highest
first_above : (n : ℕ) (ps : List PacketContent) → highest_of ps < n → first_of n ps ≡ None
first_above n ps above = by_first (first_of n ps) refl
  where
    by_first : (first : Option PacketContent) → first_of n ps ≡ first → first ≡ None
    by_first None e = refl
    by_first (Some p) e = absurd (omega (arith, above, first-within n ps (ap is_some e)))

apart_from : (k n : ℕ) → n < k → eqb k n ≡ false
apart_from k n above = grind (arith, common_steps, above)

case_held : (k next most before : ℕ) (w x y z : Option PacketContent) → w ≡ cond (ltb k next) None x → x ≡ cond (ltb k before) None y → before ≤ next → most ≡ next
    → (next ≤ k → z ≡ y) → w ≡ cond (ltb k most) None z
case_held k next most before w x y z e f low is same = grind (arith, common_steps)

-- a packet that passes at once leaves the arbiter standing at the events with it
free_stands : (es : List Event) (p : PacketContent) (old new : View) → StandsAt es old → IsFree p.number old → LetsPass old new → p.number ≤ 4294967295
    → StandsAt (es ++ came p ∷ []) new
free_stands es p old new s free l most =
    let opened : is_closed es ≡ false = rw (← s.is_closed) free.opened in
    let low : highest es < old.next = omega (arith, s.top, free.none) in
    let high : max (highest es) p.number ≡ old.next = omega (arith, low, free.next) in
    record {
      room = rw l.channel s.room;
      begun = omega (arith, l.next);
      first = λ waits. absurd (false≢true (sym waits ∙ l.joined ∙ free.joined));
      most = omega (arith, l.top, most, free.next);
      top = rw (packets-came es p opened, highest-more (accepted_packets es) p) (omega (arith, l.top, l.next, high));
      is_closed = rw (closed-came es p, l.is_closed) s.is_closed;
      newest = rw (newest-same new.channel.ids es (es ++ came p ∷ []) (snapshots-came es p), l.newest, l.channel) s.newest;
      held = λ k. rw (packets-came es p opened, highest-more (accepted_packets es) p, high)
          (case_held k new.next (max new.next (old.next + 1 - new.channel.room)) _ _ _ _ _ (l.held k) (s.held k) (omega (arith, l.next)) (omega (arith, l.next))
          (λ from. first-apart k (accepted_packets es) p (apart_from k p.number (omega (arith, from, l.next, free.next)))));
    }

-- it is the machine's move
free_possible : (es : List Event) (p : PacketContent) (v : View) → StandsAt es v → IsFree p.number v → next_move v.channel (es ++ came p ∷ []) (state v) ≡ Some (passed p)
free_possible es p v s free =
    let opened : is_closed es ≡ false = rw (← s.is_closed) free.opened in
    let low : highest es < v.next = omega (arith, s.top, free.none) in
    let near : leb (v.next + v.channel.room) (max (highest es) p.number) ≡ false = lt-leb _ _ (omega (arith, low, free.next, s.room)) in
    let here : eqb v.next p.number ≡ true = grind (arith, common_steps, free.next) in
    rw (
      closed-came es p,
      opened,
      free.joined,
      packets-came es p opened,
      highest-more (accepted_packets es) p,
      near,
      first-more v.next (accepted_packets es) p (first_above v.next (accepted_packets es) low),
      here,
    ) refl

-- no other move is possible then
free_settles : (es : List Event) (p : PacketContent) (old new : View) → StandsAt es old → IsFree p.number old → LetsPass old new
    → next_move old.channel (es ++ came p ∷ []) (state new) ≡ None
free_settles es p old new s free l =
    let opened : is_closed es ≡ false = rw (← s.is_closed) free.opened in
    let low : highest es < old.next = omega (arith, s.top, free.none) in
    let near : leb (new.next + old.channel.room) (max (highest es) p.number) ≡ false = lt-leb _ _ (omega (arith, low, free.next, l.next)) in
    let joined : new.joined ≡ true = l.joined ∙ free.joined in
    let none : first_of new.next (accepted_packets es ++ p ∷ []) ≡ None =
    first_above new.next (accepted_packets es ++ p ∷ []) (rw (highest-more (accepted_packets es) p) (omega (arith, low, free.next, l.next))) in
    rw (closed-came es p, opened, joined, packets-came es p opened, highest-more (accepted_packets es) p, near, none) refl

pub free_passes : (es : List Event) (p : PacketContent) (old new : View) → StandsAt es old → passes_at_once p.number old ≡ true → LetsPass old new → p.number ≤ 4294967295
    → HasPassed p (es ++ came p ∷ []) old new
free_passes es p old new s is l most =
    let free = is_free p.number old is in
    record {
      stands = free_stands es p old new s free l most;
      possible = free_possible es p old s free;
      settled = free_settles es p old new s free l;
      state = rw (l.next, l.bases, l.joined) refl;
    }
