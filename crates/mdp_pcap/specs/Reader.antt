-- What it means that a file was read on, piece by piece.
use Rattle.std.specs.Prelude.{◌≡◌, ℕ, ◌+◌, min, List, [], ◌∷◌, ◌++◌, Option, Some, None}
use Rattle.std.specs.List.{flat_map}
use Rattle.mdp_pcap.specs.Frame.{CapturedContent}
use Rattle.mdp_pcap.specs.Block.{Reading, BlockContent, frames_of}
use Rattle.mdp_pcap.specs.File.{FrontContent, Unfinished, Faulty, AreBlocks, front_of, cut_end, at_start, IsPcap}
use Rattle.mdp_pcap.specs.declared.layout.Layout.{Layout}
use Rattle.mdp_pcap.specs.declared.layout.PcapFault.{PcapFault}
use Rattle.mdp_pcap.specs.declared.pcap_reader.Halt.{Halt}
use Rattle.mdp_pcap.specs.declared.pcap_reader.Halt.TheVariants as halts
use Rattle.mdp_pcap.specs.declared.pcap_reader.PcapReader.{PcapReader}

-- a frame with its number in its file
pub record NumberedFrame : Type 0 where
  pub number : ℕ
  pub frame : CapturedContent

-- the number after another; the greatest stands for all after it
abbrev pub next_number : ℕ → ℕ
next_number number = min (number + 1) 4294967295

-- frames with their numbers, the first of which this is
abbrev pub numbered : ℕ → List CapturedContent → List NumberedFrame
numbered number [] = []
numbered number (frame ∷ frames) = record { number = number; frame = frame } ∷ numbered (next_number number) frames

-- the number behind these frames
abbrev pub number_after : ℕ → List CapturedContent → ℕ
number_after number [] = number
number_after number (frame ∷ frames) = number_after (next_number number) frames

-- what a reader has read, the bytes that it holds of a block that is not whole, the number of the next frame, and the
-- fault at which it stopped
pub record ReaderContent : Type 0 where
  pub reading : Reading
  pub held : List ℕ
  pub number : ℕ
  pub fault : Option PcapFault

abbrev pub content_of : {A : Type 0} → PcapReader A → ReaderContent
content_of reader = record {
  reading = record { layout = reader.layout; interfaces = reader.interfaces.items };
  held = reader.held.items;
  number = reader.number;
  fault = reader.fault;
}

-- what takes frames took these: whatever it held before, it holds these after it, and nothing beside them changed
abbrev pub Takes : {B S : Type 0} → (B → S → List NumberedFrame → Type 0) → S → S → List NumberedFrame → Type 0
Takes {B} holds before after frames =
    (beside : B) (earlier : List NumberedFrame) → holds beside before earlier → holds beside after (earlier ++ frames)

-- of a text the blocks up to `left` were read, and their frames, with their numbers, were taken
pub record IsReadOn (Taken : List NumberedFrame → Type 0) (old now : ReaderContent)
    (text left : List ℕ) : Type 0 where
  pub blocks : List BlockContent
  pub follow : AreBlocks old.reading text blocks now.reading left
  pub taken : Taken (numbered old.number (flat_map frames_of blocks))
  pub counted : number_after old.number (flat_map frames_of blocks) ≡ now.number

-- No block stands at the front of these bytes: a reader with no fault holds them, since they are the beginning of one;
-- else that is its fault, and it holds nothing.
abbrev pub StandsAs : List ℕ → List ℕ → Option PcapFault → FrontContent → Type 0
StandsAs left held None front = (left ≡ held) × ((count : ℕ) × (front ≡ Unfinished count))
StandsAs left held (Some fault) front = (held ≡ []) × (front ≡ Faulty fault)

-- all that is whole of a text was read
pub record IsReadWhole (Taken : List NumberedFrame → Type 0) (old now : ReaderContent)
    (text : List ℕ) : Type 0 where
  pub left : List ℕ
  pub so_far : IsReadOn Taken old now text left
  pub stands : StandsAs left now.held now.fault (front_of now.reading.layout now.reading.interfaces left)

-- some blocks at the front of a text were read
abbrev pub IsReadSome : (List NumberedFrame → Type 0) → ReaderContent → List ℕ → Type 0
IsReadSome Taken old text = (now : ReaderContent) × ((left : List ℕ) × IsReadOn Taken old now text left)

-- Of a text not all that is whole was read. Where memory ran out, the frames that were taken are its first ones. Where
-- what takes the frames took no more, that says itself what it holds.
abbrev pub HasHalted : {E : Type 0} → (List NumberedFrame → Type 0) → ReaderContent → List ℕ → Halt E → Type 0
HasHalted Taken old text halts.Memory = IsReadSome Taken old text
HasHalted Taken old text (halts.Stop stop) = Unit {0}

-- how the file ends where its input does
abbrev pub ending_with : Layout → List ℕ → Option PcapFault → Option PcapFault
ending_with layout held None = cut_end layout held
ending_with layout held (Some fault) = Some fault

abbrev pub ending_of : ReaderContent → Option PcapFault
ending_of now = ending_with now.reading.layout now.held now.fault

-- a reader that has read nothing
abbrev pub at_first : ReaderContent
at_first = record { reading = at_start; held = []; number = 1; fault = None }

-- of a text that ends here the frames were taken, from number 1 on, and the fault and the next number are the reader's
pub record HasHandedOn (Taken : List NumberedFrame → Type 0) (now : ReaderContent) (text : List ℕ) : Type 0 where
  pub frames : List CapturedContent
  pub is : IsPcap text (record { frames = frames; fault = ending_of now })
  pub counted : number_after 1 frames ≡ now.number
  pub taken : Taken (numbered 1 frames)
