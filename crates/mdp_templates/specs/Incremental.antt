-- The messages of the incremental feeds A and B, and the packets that they make up
-- (MDP 3.0, market data incremental refresh and the match event indicator; which templates carry the
-- indicator is this project's own choice).
use Rattle.std.specs.Prelude.{◌≡◌, ◌<◌, ◌↔◌, ◌==◌, ◌||◌, ◌&&◌, nat_le, if◌then◌else◌, ℕ, List, [], length, drop, slice_index, IsTrue, Bool}
use Rattle.std.specs.Int.{IsBitSet}
use Rattle.mdp_sbe.specs.Framing.{IsHeader, Parts, AreMessages, AreRefused, IsRoot, IsRefusedRoot}
use Rattle.mdp_sbe.specs.declared.header.Header.{Header}
use Rattle.mdp_sbe.specs.declared.refusal.Refusal.{Refusal}
use Rattle.mdp_sbe.specs.declared.refusal.Refusal.TheVariants as refusals
use Rattle.mdp_templates.specs.declared.template.Template.{Template}
use Rattle.mdp_templates.specs.declared.template.Template.TheVariants as templates
use Rattle.mdp_templates.specs.Entry.{entry_of}
use Rattle.mdp_templates.specs.declared.entry.Entry.{Entry}
use Rattle.mdp_templates.specs.Layout.{Layout, IsLaidOut, IsRefusedLayout}
use Rattle.mdp_templates.specs.Packet.{MessageContent, PacketContent}

-- what a template is on the incremental feeds
abbrev pub template_of : ℕ → Template
template_of n =
    if n == 46 then templates.Book else (if n == 4 then templates.ChannelReset
    else (if n == 37 || (nat_le 47 n && nat_le n 51) then templates.Carrier else templates.Other))

-- a message ends its event where bit 7 of the match event indicator is set, the root block's byte 8
abbrev pub EndsEvent : List ℕ → Bool → Type 0
EndsEvent root end = IsTrue end ↔ IsBitSet (slice_index root 8) 7

-- book refresh by price: a root block of at least 9 bytes, and entries of at least 27
abbrev pub book_refresh : Layout Entry
book_refresh = record { read = entry_of; least_root = 9; least_entry = 27 }

-- a book message
pub record IsBook (message : Parts) (value : MessageContent) : Type 0 where
  pub root : List ℕ
  pub laid_out : IsLaidOut book_refresh message root value.entries
  pub ends : EndsEvent root value.end

-- a message of which the match event indicator alone is read
pub record IsCarrier (message : Parts) (value : MessageContent) : Type 0 where
  pub root : List ℕ
  pub rest : List ℕ
  pub block : IsRoot message 9 root rest
  pub none : value.entries ≡ []
  pub ends : EndsEvent root value.end

-- a message that is stepped over by its size
pub record IsSteppedOver (value : MessageContent) : Type 0 where
  pub none : value.entries ≡ []
  pub goes_on : IsTrue value.end → ⊥

-- the value of a message by its template; a channel reset has none
abbrev pub IsIncrementalAs : Template → Parts → MessageContent → Type 0
IsIncrementalAs templates.Book message value = IsBook message value
IsIncrementalAs templates.Carrier message value = IsCarrier message value
IsIncrementalAs templates.ChannelReset message value = ⊥
IsIncrementalAs templates.Other message value = IsSteppedOver value

abbrev pub IsIncremental : Parts → MessageContent → Type 0
IsIncremental message value = IsIncrementalAs (template_of message.template) message value

-- the first fault of a message by its template; one that is stepped over has none
abbrev pub IsRefusedIncrementalAs : Template → Parts → Refusal → Type 0
IsRefusedIncrementalAs templates.Book message r = IsRefusedLayout book_refresh message r
IsRefusedIncrementalAs templates.Carrier message r = IsRefusedRoot message 9 r
IsRefusedIncrementalAs templates.ChannelReset message r = r ≡ refusals.ChannelReset
IsRefusedIncrementalAs templates.Other message r = ⊥

abbrev pub IsRefusedIncremental : Parts → Refusal → Type 0
IsRefusedIncremental message r = IsRefusedIncrementalAs (template_of message.template) message r

-- the text of a packet: a header whose number is at least 1, and then its messages to the end
pub record IsPacket (text : List ℕ) (value : PacketContent) : Type 0 where
  pub header : Header
  pub begins : IsHeader text header
  pub positive : 0 < value.number
  pub number : value.number ≡ header.number
  pub follow : AreMessages IsIncremental (drop 12 text) value.messages []

-- the first fault of a text that should be a packet: of its header, or else of its messages
pub data IsRefusedPacket (text : List ℕ) (r : Refusal) : Type 0 where
  too_short : length text < 12 → r ≡ refusals.TooShort → IsRefusedPacket text r
  number_zero : (header : Header) → IsHeader text header → header.number ≡ 0 → r ≡ refusals.NumberZero
      → IsRefusedPacket text r
  in_messages : (header : Header) → IsHeader text header → 0 < header.number
      → AreRefused IsIncremental IsRefusedIncremental (drop 12 text) r → IsRefusedPacket text r
