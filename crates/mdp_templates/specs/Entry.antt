-- One entry of an incremental book message (MDP 3.0, market data incremental refresh: book entries).
use Rattle.std.specs.Prelude.{ℕ, ℤ, pos, ◌==◌, nat_lt, int_lt, List, slice_index, Result, Ok, Err, ◌||◌, if◌then◌else◌}
use Rattle.std.specs.Ordering.{int_eq}
use Rattle.mdp_sbe.specs.Number.{int32_at, int64_at}
use Rattle.mdp_sbe.specs.declared.refusal.Refusal.{Refusal}
use Rattle.mdp_sbe.specs.declared.refusal.Refusal.TheVariants as refusals
use Rattle.mdp_templates.specs.declared.entry.Entry.{Entry}
use Rattle.mdp_templates.specs.declared.entry.Level.{Level}
use Rattle.mdp_templates.specs.declared.entry.Kind.{Kind}
use Rattle.mdp_templates.specs.declared.entry.Kind.TheVariants as kinds
use Rattle.mdp_templates.specs.declared.entry.Action.{Action}
use Rattle.mdp_templates.specs.declared.entry.Action.TheVariants as actions
use Rattle.mdp_templates.specs.Answer.{◌>>=◌}

-- the entry types of the four sides, the ASCII characters 0, 1, E and F
abbrev pub kind_of : ℕ → Result Kind Refusal
kind_of n =
    if n == 48 then Ok kinds.Bid else (if n == 49 then Ok kinds.Offer
    else (if n == 69 then Ok kinds.ImpliedBid else (if n == 70 then Ok kinds.ImpliedOffer else Err refusals.EntryType)))

abbrev pub action_of : ℕ → Result Action Refusal
action_of n =
    if n == 0 then Ok actions.New else (if n == 1 then Ok actions.Change
    else (if n == 2 then Ok actions.Delete else Err refusals.Action))

-- how many levels a side has at most, where it is direct and where it is implied
abbrev pub direct_depth : ℕ
direct_depth = 10

abbrev pub implied_depth : ℕ
implied_depth = 2

abbrev pub depth_of : Kind → ℕ
depth_of kinds.Bid = direct_depth
depth_of kinds.Offer = direct_depth
depth_of kinds.ImpliedBid = implied_depth
depth_of kinds.ImpliedOffer = implied_depth

abbrev pub level_of : Kind → ℕ → Result ℕ Refusal
level_of kind n = if n == 0 then Err refusals.Level else (if nat_lt (depth_of kind) n then Err refusals.Level else Ok n)

-- a price and a size that a level may have: neither is null, and the size isn't negative
abbrev pub quote_of : ℤ → ℤ → Result Level Refusal
quote_of price size =
    if int_eq price (pos 9223372036854775807) then Err refusals.Price
    else (if int_eq size (pos 2147483647) || int_lt size (pos 0) then Err refusals.Size
    else Ok (record { price = price; size = size }))

-- with a delete the price and the size are not looked at
abbrev pub action_quote : Action → ℤ → ℤ → Result Level Refusal
action_quote actions.New price size = quote_of price size
action_quote actions.Change price size = quote_of price size
action_quote actions.Delete price size = Ok (record { price = price; size = size })

-- the entry that a text of at least 27 bytes is, or the first refusal that holds
unfoldable pub entry_of : List ℕ → Result Entry Refusal
entry_of text = do
  kind ← kind_of (slice_index text 26)
  action ← action_of (slice_index text 25)
  level ← level_of kind (slice_index text 24)
  quote ← action_quote action (int64_at 0 text) (int32_at 8 text)
  Ok (record {
    security = int32_at 12 text;
    kind = kind;
    action = action;
    level = level;
    price = quote.price;
    size = quote.size;
  })
