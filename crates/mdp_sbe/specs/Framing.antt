-- How a packet is framed: a header of 12 bytes, then messages, each as long as its size says
-- (MDP 3.0, the binary packet header and the message header; SBE 1.0, the message header).
use Rattle.std.specs.Prelude.{◌≡◌, ◌≢◌, ◌<◌, ◌≤◌, ℕ, List, [], ◌∷◌, ◌++◌, length, drop}
use Rattle.mdp_sbe.specs.Number.{number_at}
use Rattle.mdp_sbe.specs.declared.header.Header.{Header}
use Rattle.mdp_sbe.specs.declared.message.Message.{Message}
use Rattle.mdp_sbe.specs.declared.refusal.Refusal.{Refusal}
use Rattle.mdp_sbe.specs.declared.refusal.Refusal.TheVariants as refusals

-- a text begins with the packet header that has these numbers
pub record IsHeader (text : List ℕ) (header : Header) : Type 0 where
  pub long : 12 ≤ length text
  pub number : header.number ≡ number_at 0 4 text
  pub time : header.time ≡ number_at 4 8 text

-- the text of one message: its first two bytes give its length, and its schema is 1
pub record IsMessage (text : List ℕ) : Type 0 where
  pub long : 10 ≤ length text
  pub size : number_at 0 2 text ≡ length text
  pub schema : number_at 6 2 text ≡ 1

-- what a message's header states, and the body that follows it
pub record Parts : Type 0 where
  pub block_length : ℕ
  pub template : ℕ
  pub version : ℕ
  pub body : List ℕ

abbrev pub parts_of : List ℕ → Parts
parts_of text =
    record {
      block_length = number_at 2 2 text;
      template = number_at 4 2 text;
      version = number_at 8 2 text;
      body = drop 10 text;
    }

-- a lent message, without where its body lies in memory
abbrev pub parts : Message → Parts
parts message =
    record {
      block_length = message.block_length;
      template = message.template;
      version = message.version;
      body = message.body.now;
    }

-- a text begins with a message of these parts, and this follows it
pub record BeginsMessage (rest : List ℕ) (message : Parts) (after : List ℕ) : Type 0 where
  pub text : List ℕ
  pub whole : rest ≡ text ++ after
  pub is : IsMessage text
  pub lent : message ≡ parts_of text

-- why no message begins a text that is not empty: the first of these that holds
abbrev pub IsUnframed : List ℕ → Refusal → Type 0
IsUnframed rest refusals.SizeCut = length rest ≡ 1
IsUnframed rest refusals.SizeSmall = (2 ≤ length rest) × (number_at 0 2 rest < 10)
IsUnframed rest refusals.SizePast = (2 ≤ length rest) × (10 ≤ number_at 0 2 rest) × (length rest < number_at 0 2 rest)
IsUnframed rest refusals.Schema =
    (10 ≤ number_at 0 2 rest) × (number_at 0 2 rest ≤ length rest) × (number_at 6 2 rest ≢ 1)
IsUnframed rest _ = ⊥

-- From `rest` to `after` stand messages of these values, one after the other. What a message's value is
-- depends on the reader, and is the first argument.
abbrev pub AreMessages : {V : Type 0} → (Parts → V → Type 0) → List ℕ → List V → List ℕ → Type 0
AreMessages IsValue rest [] after = rest ≡ after
AreMessages IsValue rest (v ∷ vs) after =
    (message : Parts) × (next : List ℕ) × BeginsMessage rest message next × IsValue message v
    × AreMessages IsValue next vs after

-- what stands here begins no message, or begins one that is refused
pub data IsRefusedHere (IsRefused : Parts → Refusal → Type 0) (here : List ℕ) (r : Refusal) : Type 0 where
  unframed : IsUnframed here r → IsRefusedHere IsRefused here r
  in_message : (message : Parts) (after : List ℕ) → BeginsMessage here message after → IsRefused message r
      → IsRefusedHere IsRefused here r

-- The first fault of a text that should be messages: good ones, and then the fault.
pub record AreRefused {V : Type 0} (IsValue : Parts → V → Type 0) (IsRefused : Parts → Refusal → Type 0) (rest : List ℕ)
    (r : Refusal) : Type 0 where
  pub values : List V
  pub here : List ℕ
  pub good : AreMessages IsValue rest values here
  pub fault : IsRefusedHere IsRefused here r

-- a packet: its header, and the parts of its messages
pub record IsFramed (text : List ℕ) (header : Header) (messages : List Parts) : Type 0 where
  pub begins : IsHeader text header
  pub follow : AreMessages (λ (message : Parts) (is : Parts). message ≡ is) (drop 12 text) messages []

-- a message's body is a root block, at least so long as the reader needs, and this rest (SBE 1.0, the root block)
pub record IsRoot (message : Parts) (least : ℕ) (root rest : List ℕ) : Type 0 where
  pub whole : message.body ≡ root ++ rest
  pub stated : length root ≡ message.block_length
  pub long : least ≤ message.block_length

abbrev pub IsRefusedRoot : Parts → ℕ → Refusal → Type 0
IsRefusedRoot message least refusals.BlockShort = message.block_length < least
IsRefusedRoot message least refusals.BlockPast =
    (least ≤ message.block_length) × (length message.body < message.block_length)
IsRefusedRoot message least _ = ⊥
