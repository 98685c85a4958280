-- Where a channel stands, by plain numbers.
use Rattle.std.specs.Prelude.{is_some, unwrap_or, Option}
use Rattle.std.specs.Option.{option_map}
use Rattle.mdp_engine.specs.Engine.{View}
use Rattle.mdp_receiver.specs.Handling.{state_of}
use Rattle.mdp_receiver.specs.declared.handler.ChannelState.{ChannelState}
use Rattle.mdp_c.specs.Books.{flag}
use Rattle.mdp_c.specs.declared.state.State.{State}

abbrev pub state_told : ChannelState → State
state_told state = record {
  next = state.next;
  highest = state.highest;
  waiting = state.waiting;
  stale = unwrap_or state.stale 0;
  is_lost = flag state.lost;
  has_stale = flag (is_some state.stale);
}

abbrev pub state_at : Option View → Option State
state_at h = option_map (λ (v : View). state_told (state_of v)) h
