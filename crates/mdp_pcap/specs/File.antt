-- What a file of captured traffic holds: the frames of its blocks, up to its end or a first fault.
use Rattle.std.specs.Prelude.{◌≡◌, ℕ, ◌==◌, nat_lt, if◌then◌else◌, List, [], ◌∷◌, length, take, drop}
use Rattle.std.specs.Prelude.{Option, Some, None, Result, Ok, Err}
use Rattle.std.specs.List.{flat_map}
use Rattle.mdp_pcap.specs.Frame.{CapturedContent}
use Rattle.mdp_pcap.specs.Block.{Reading, BlockContent, block_of, read_on, frames_of}
use Rattle.mdp_pcap.specs.Extent.{needed}
use Rattle.mdp_pcap.specs.declared.layout.Interface.{Interface}
use Rattle.mdp_pcap.specs.declared.layout.Layout.{Layout}
use Rattle.mdp_pcap.specs.declared.layout.Layout.TheVariants as layouts
use Rattle.mdp_pcap.specs.declared.layout.PcapFault.{PcapFault}
use Rattle.mdp_pcap.specs.declared.layout.PcapFault.TheVariants as faults

-- what stands at the front of a text: fewer bytes than a block needs; no block; a whole block of so many bytes
pub data FrontContent : Type 0 where
  Unfinished : ℕ → FrontContent
  Faulty : PcapFault → FrontContent
  Whole : ℕ → BlockContent → FrontContent

abbrev pub front_says : ℕ → Result BlockContent PcapFault → FrontContent
front_says count (Ok block) = Whole count block
front_says count (Err fault) = Faulty fault

abbrev pub front_with : Layout → List Interface → List ℕ → Result ℕ PcapFault → FrontContent
front_with layout interfaces text (Err fault) = Faulty fault
front_with layout interfaces text (Ok count) =
    if nat_lt (length text) count then Unfinished count
    else front_says count (block_of layout interfaces (take count text))

abbrev pub front_of : Layout → List Interface → List ℕ → FrontContent
front_of layout interfaces text = front_with layout interfaces text (needed layout text)

-- from `text` to `left` stand these blocks, one after the other, and so much is read of them
abbrev pub AreBlocks : Reading → List ℕ → List BlockContent → Reading → List ℕ → Type 0
AreBlocks reading text [] now left = (reading ≡ now) × (text ≡ left)
AreBlocks reading text (block ∷ blocks) now left =
    (count : ℕ)
    × (front_of reading.layout reading.interfaces text ≡ Whole count block)
    × AreBlocks (read_on reading block) (drop count text) blocks now left

-- how an input ends that ends behind a block, or within one
abbrev pub cut_short : List ℕ → Option PcapFault
cut_short text = if length text == 0 then None else Some faults.CutShort

-- how it ends where nothing, or not the first block, is read
abbrev pub cut_end : Layout → List ℕ → Option PcapFault
cut_end layouts.Start text = if nat_lt (length text) 4 then Some faults.NotPcap else Some faults.CutShort
cut_end (layouts.Records order) text = cut_short text
cut_end (layouts.Blocks order) text = cut_short text

-- why no further block stands here, where the input ends: a fault, or none at a file's end
abbrev pub EndsAs : Layout → List ℕ → Option PcapFault → FrontContent → Type 0
EndsAs layout text fault (Unfinished count) = fault ≡ cut_end layout text
EndsAs layout text fault (Faulty found) = fault ≡ Some found
EndsAs layout text fault (Whole count block) = ⊥

-- nothing is read yet
abbrev pub at_start : Reading
at_start = record { layout = layouts.Start; interfaces = [] }

-- what a file holds: its frames, and the fault behind them, or none
pub record PcapContent : Type 0 where
  pub frames : List CapturedContent
  pub fault : Option PcapFault

pub record IsPcap (text : List ℕ) (pcap : PcapContent) : Type 0 where
  pub blocks : List BlockContent
  pub now : Reading
  pub left : List ℕ
  pub follow : AreBlocks at_start text blocks now left
  pub ends : EndsAs now.layout left pcap.fault (front_of now.layout now.interfaces left)
  pub frames_are : flat_map frames_of blocks ≡ pcap.frames

-- a text holds this, and nothing else
pub record HasOnePcap (text : List ℕ) : Type 0 where
  pub pcap : PcapContent
  pub is : IsPcap text pcap
  pub only : (other : PcapContent) → IsPcap text other → other ≡ pcap
