use Rattle.std.proofs.Common.{inl}
use Rattle.mdp_c.proofs.feeding.feed_session.Goals as goal

pub returns : goal.returns
returns c = inl (record {
  told = (c.in-Ok.taken, c.in-Ok.moved);
  taken = c.in-Ok.ensures.taken;
  sound = c.in-Ok.ensures.sound;
  became = c.tell_became.ensures.became;
  status = c.tell_became.ensures.status;
})
