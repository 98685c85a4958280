-- The messages of a packet whose entries all lie in one list.
use Rattle.std.specs.Prelude.{◌≡◌, ◌+◌, ◌≤◌, ℕ, List, [], ◌∷◌, ◌++◌, length, map, take, drop, All}
use Rattle.mdp_templates.specs.declared.entry.Entry.{Entry}
use Rattle.mdp_templates.specs.declared.spans.Span.{Span}
use Rattle.mdp_templates.specs.Packet.{MessageContent, PacketContent}

-- the message whose entries lie there in this list
abbrev pub message_at : List Entry → Span → MessageContent
message_at entries span = record { entries = take span.count (drop span.start entries); end = span.end }

abbrev pub messages_at : List Entry → List Span → List MessageContent
messages_at entries spans = map (message_at entries) spans

-- each message's entries lie among so many
abbrev pub AreWithin : ℕ → List Span → Type 0
AreWithin count spans = All (λ (s : Span). s.start + s.count ≤ count) spans

-- how many entries messages at these places have
abbrev pub entries_in : List Span → ℕ
entries_in [] = 0
entries_in (span ∷ spans) = span.count + entries_in spans

-- a packet with a message more at its end
abbrev pub packet_with : MessageContent → PacketContent → PacketContent
packet_with message packet = record { number = packet.number; messages = packet.messages ++ message ∷ [] }

-- a list grew by items of which this holds
pub record Adds {E : Type 0} (IsMore : List E → Type 0) (old new : List E) : Type 0 where
  pub more : List E
  pub grown : new ≡ old ++ more
  pub is : IsMore more

-- a list grew by one item of which this holds
pub record AddsOne {E : Type 0} (IsItem : E → Type 0) (old new : List E) : Type 0 where
  pub item : E
  pub grown : new ≡ old ++ item ∷ []
  pub is : IsItem item

-- a list of entries grew by those of a message of which this holds, and there they lie
pub record AddsMessage (IsValue : MessageContent → Type 0) (old new : List Entry) (span : Span) : Type 0 where
  pub more : List Entry
  pub grown : new ≡ old ++ more
  pub within : span.start + span.count ≤ length new
  pub value : IsValue (message_at new span)
