-- The messages of the market recovery feed S, and the snapshots that a datagram gives
-- (MDP 3.0, snapshot full refresh; that one message holds a whole book is this project's own profile).
use Rattle.std.specs.Prelude.{◌≡◌, ◌≢◌, ◌<◌, ◌+◌, ◌==◌, ◌&&◌, if◌then◌else◌, ℕ, List, [], ◌++◌, length, drop, slice_index, slice_get, Option, Some, None, Result, Ok, Err, Bool, true, false}
use Rattle.std.specs.Option.{option_to_list}
use Rattle.std.specs.List.{filter_map}
use Rattle.mdp_sbe.specs.Number.{number_at, int32_at, int64_at}
use Rattle.mdp_sbe.specs.Framing.{IsHeader, Parts, AreMessages, AreRefused}
use Rattle.mdp_sbe.specs.declared.header.Header.{Header}
use Rattle.mdp_sbe.specs.declared.refusal.Refusal.{Refusal}
use Rattle.mdp_sbe.specs.declared.refusal.Refusal.TheVariants as refusals
use Rattle.mdp_templates.specs.declared.entry.Level.{Level}
use Rattle.mdp_templates.specs.declared.entry.Kind.{Kind}
use Rattle.mdp_templates.specs.declared.entry.Kind.TheVariants as kinds
use Rattle.mdp_templates.specs.declared.quote.Quote.{Quote}
use Rattle.mdp_templates.specs.Answer.{◌>>=◌}
use Rattle.mdp_templates.specs.Entry.{kind_of, level_of, quote_of}
use Rattle.mdp_templates.specs.Layout.{Layout, IsLaidOut, IsRefusedLayout}
use Rattle.mdp_templates.specs.Snapshot.{SnapshotContent}

-- the quote of a side that an entry of this kind gives
abbrev pub quote_as : Kind → List ℕ → Result (Option Quote) Refusal
quote_as kind text = do
  position ← level_of kind (slice_index text 16)
  level ← quote_of (int64_at 0 text) (int32_at 8 text)
  Ok (Some (record { kind = kind; position = position; level = level }))

-- an entry of another type, as a statistic, is not looked at and gives nothing
abbrev pub quote_by : Result Kind Refusal → List ℕ → Result (Option Quote) Refusal
quote_by (Ok kind) text = quote_as kind text
quote_by (Err r) text = Ok None

-- the quote that an entry's text of at least 22 bytes gives, if any, or the first refusal that holds
unfoldable pub quote_in : List ℕ → Result (Option Quote) Refusal
quote_in text = quote_by (kind_of (slice_index text 21)) text

abbrev pub same_kind : Kind → Kind → Bool
same_kind kinds.Bid kinds.Bid = true
same_kind kinds.Offer kinds.Offer = true
same_kind kinds.ImpliedBid kinds.ImpliedBid = true
same_kind kinds.ImpliedOffer kinds.ImpliedOffer = true
same_kind _ _ = false

abbrev pub level_at : Kind → ℕ → Option Quote → Option Level
level_at kind position None = None
level_at kind position (Some quote) =
    if same_kind quote.kind kind && quote.position == position then Some quote.level else None

-- the levels that these entries give at a position of a side
abbrev pub levels_at : Kind → ℕ → List (Option Quote) → List Level
levels_at kind position quotes = filter_map (level_at kind position) quotes

-- The side that these entries give, in whatever order they stand: at each position up to its length exactly its
-- level, and none past it.
abbrev pub IsSide : Kind → List (Option Quote) → List Level → Type 0
IsSide kind quotes side = (k : ℕ) → levels_at kind (k + 1) quotes ≡ option_to_list (slice_get side k)

-- the levels of some side are not 1 to n, each once
pub record HasBadSide (quotes : List (Option Quote)) : Type 0 where
  pub kind : Kind
  pub none : (side : List Level) → IsSide kind quotes side → ⊥

-- and then a message of these entries is refused
pub record IsBadlySided (quotes : List (Option Quote)) (r : Refusal) : Type 0 where
  pub sides : HasBadSide quotes
  pub refused : r ≡ refusals.SnapshotLevels

-- the sides are those that these entries give
pub record HasSides (quotes : List (Option Quote)) (value : SnapshotContent) : Type 0 where
  pub bids : IsSide kinds.Bid quotes value.bids
  pub offers : IsSide kinds.Offer quotes value.offers
  pub implied_bids : IsSide kinds.ImpliedBid quotes value.implied_bids
  pub implied_offers : IsSide kinds.ImpliedOffer quotes value.implied_offers

-- what the root block and the entries of a snapshot message give: one security's sides after its last packet
pub record IsWhole (root : List ℕ) (quotes : List (Option Quote)) (value : SnapshotContent) : Type 0 where
  pub last : value.last ≡ number_at 0 4 root
  pub security : value.security ≡ int32_at 8 root
  pub bids : IsSide kinds.Bid quotes value.bids
  pub offers : IsSide kinds.Offer quotes value.offers
  pub implied_bids : IsSide kinds.ImpliedBid quotes value.implied_bids
  pub implied_offers : IsSide kinds.ImpliedOffer quotes value.implied_offers

-- full refresh by price: a root block of at least 16 bytes, and entries of at least 22
abbrev pub full_refresh : Layout (Option Quote)
full_refresh = record { read = quote_in; least_root = 16; least_entry = 22 }

-- a snapshot message
pub record IsSnapshot (message : Parts) (value : SnapshotContent) : Type 0 where
  pub root : List ℕ
  pub quotes : List (Option Quote)
  pub laid_out : IsLaidOut full_refresh message root quotes
  pub whole : IsWhole root quotes value

-- the first fault of a snapshot message: of its layout, or else of its sides
pub data IsRefusedSnapshot (message : Parts) (r : Refusal) : Type 0 where
  in_layout : IsRefusedLayout full_refresh message r → IsRefusedSnapshot message r
  in_sides : (root : List ℕ) (quotes : List (Option Quote)) → IsLaidOut full_refresh message root quotes
      → HasBadSide quotes → r ≡ refusals.SnapshotLevels → IsRefusedSnapshot message r

-- what a message of this feed gives: a snapshot where its template is 52, else nothing
abbrev pub IsRecovery : Parts → Option SnapshotContent → Type 0
IsRecovery message None = message.template ≢ 52
IsRecovery message (Some value) = (message.template ≡ 52) × IsSnapshot message value

abbrev pub IsRefusedRecovery : Parts → Refusal → Type 0
IsRefusedRecovery message r = (message.template ≡ 52) × IsRefusedSnapshot message r

-- a list of snapshots grew by what a message of this feed gives
pub record AddsRecovery (message : Parts) (old new : List SnapshotContent) : Type 0 where
  pub given : Option SnapshotContent
  pub grown : new ≡ old ++ option_to_list given
  pub is : IsRecovery message given

-- from `rest` to `here` stand messages that give these snapshots in order
pub record Give (rest : List ℕ) (values : List SnapshotContent) (here : List ℕ) : Type 0 where
  pub each : List (Option SnapshotContent)
  pub follow : AreMessages IsRecovery rest each here
  pub values_are : values ≡ filter_map (λ (value : Option SnapshotContent). value) each

-- the text of a datagram of this feed: a header with any number, and then messages to the end
pub record AreSnapshots (text : List ℕ) (values : List SnapshotContent) : Type 0 where
  pub header : Header
  pub begins : IsHeader text header
  pub give : Give (drop 12 text) values []

-- the first fault of a text that should be such a datagram: of its header, or else of its messages
pub data AreRefusedSnapshots (text : List ℕ) (r : Refusal) : Type 0 where
  too_short : length text < 12 → r ≡ refusals.TooShort → AreRefusedSnapshots text r
  in_messages : (header : Header) → IsHeader text header → AreRefused IsRecovery IsRefusedRecovery (drop 12 text) r
      → AreRefusedSnapshots text r
