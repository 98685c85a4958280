-- When a security's book is printed: at an event end that it hears, if it was due or the message there names it.
use Rattle.std.specs.Prelude.{ℤ, List, Bool, not, ◌&&◌, ◌||◌}
use Rattle.mdp_books.specs.Feed.{Sent, since_end, is_named_in, touches, has_end}

-- Whether the security of an id is due at the next event end, after the messages that it heard: an entry has named it
-- since the last event end, or there was a jump and no event end since.
abbrev pub is_due : ℤ → Bool → List Sent → Bool
is_due id jumped heard = touches id (since_end heard) || (jumped && not (has_end heard))

-- whether it is printed where the next message that it hears ends an event
abbrev pub is_printed : ℤ → Bool → List Sent → Sent → Bool
is_printed id jumped heard m = is_due id jumped heard || is_named_in id m
