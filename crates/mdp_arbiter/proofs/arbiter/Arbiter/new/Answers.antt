use Rattle.std.proofs.Common.{arith, refl, sym}
use Rattle.std.specs.Ordering.{nat_cmp}
use Rattle.std.specs.FinMap.{get-empty}
use Rattle.mdp_arbiter.proofs.Bases.{as_many, none_at_first}
use Rattle.mdp_arbiter.proofs.Renewals.{none_listed, none_each, none_either}
use Rattle.mdp_arbiter.proofs.arbiter.Arbiter.new.Goals as goal

pub invariant_of-result : goal.invariant_of-result
invariant_of-result g c = (
  omega (arith, c.requires.first, c.capacity-room.ensures.room, c.capacity-room.ensures.in_range.room_least),
  sym c.capacity-room.ensures.room,
  omega (arith, c.capacity-room.ensures.room, c.capacity-room.ensures.in_range.room_least),
  omega (arith, c.capacity-room.ensures.room, c.capacity-room.ensures.in_range.room_most),
  omega arith,
  omega arith,
  omega arith,
  λ k above. rw (c.requires.empty, get-empty nat_cmp k) refl,
  none_each _ _ _ c.in_ok-slots.ensures c.in_ok-newest.ensures,
  as_many _ _ _ c.in_ok-slots.ensures c.in_ok-bases.ensures,
  λ waits. refl,
  (omega arith, refl),
)

pub returns-clause-stands : goal.returns-clause-stands
returns-clause-stands g c = record {
  room = omega (arith, c.capacity-room.ensures.room, c.capacity-room.ensures.in_range.room_least);
  begun = omega arith;
  first = λ waits. refl;
  most = omega arith;
  top = refl;
  is_closed = refl;
  newest = none_listed _ _ _ c.in_ok-slots.ensures c.in_ok-newest.ensures;
  held = λ k. rw (c.requires.empty, get-empty nat_cmp k) (none_either _);
}

pub returns-clause-start : goal.returns-clause-start
returns-clause-start g c = rw (none_at_first _ _ _ _ c.in_ok-slots.ensures c.in_ok-newest.ensures c.in_ok-bases.ensures, c.has_joined.ensures) refl
