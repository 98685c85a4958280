use Rattle.std.proofs.Common.{length}
use Rattle.mdp_quotes.proofs.Rooms.{room_second}
use Rattle.mdp_quotes.proofs.Computing.{entered_is}
use Rattle.mdp_quotes.proofs.consolidated.side_of.Goals as goal

pub enter_all-requires-2-clause-room : goal.enter_all-requires-2-clause-room
enter_all-requires-2-clause-room c = rw (c.enter_all.ensures, c.new-totals.ensures) (room_second c.args.way c.args.direct.now (length c.args.implied.now) c.requires.direct_sizes c.requires.few)

pub returns : goal.returns
returns c = rw (c.enter_all-2.ensures, c.enter_all.ensures, c.new-totals.ensures) (entered_is c.args.way c.args.direct.now c.args.implied.now)
