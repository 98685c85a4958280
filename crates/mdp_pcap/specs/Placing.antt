-- What a block says, of one whose frame is told by where it stands in the block.
use Rattle.std.specs.Prelude.{ℕ, ◌+◌, ◌≤◌, List, length, take, drop, Result, Ok, Err}
use Rattle.mdp_pcap.specs.Block.{BlockContent}
use Rattle.mdp_pcap.specs.File.{FrontContent}
use Rattle.mdp_pcap.specs.Frame.{CapturedContent}
use Rattle.mdp_pcap.specs.declared.layout.PcapFault.{PcapFault}
use Rattle.mdp_pcap.specs.declared.packet.Packet.{Packet}
use Rattle.mdp_pcap.specs.declared.block.Block.{Block}
use Rattle.mdp_pcap.specs.declared.block.Block.TheVariants as blocks
use Rattle.mdp_pcap.specs.declared.block.Front.{Front}
use Rattle.mdp_pcap.specs.declared.block.Front.TheVariants as fronts

-- the frame that stands at this place of these bytes
abbrev pub captured_in : List ℕ → Packet → CapturedContent
captured_in bytes packet =
    record { link = packet.link; bytes = take packet.captured (drop packet.start bytes); original = packet.original }

abbrev pub block_in : List ℕ → Block → BlockContent
block_in bytes (blocks.FileHeader order interface) = BlockContent.FileHeader order interface
block_in bytes (blocks.SectionHeader order) = BlockContent.SectionHeader order
block_in bytes (blocks.InterfaceDescription interface) = BlockContent.InterfaceDescription interface
block_in bytes (blocks.Packet packet) = BlockContent.Packet (captured_in bytes packet)
block_in bytes blocks.Skipped = BlockContent.Skipped

abbrev pub said_in : List ℕ → Result Block PcapFault → Result BlockContent PcapFault
said_in bytes (Ok said) = Ok (block_in bytes said)
said_in bytes (Err fault) = Err fault

abbrev pub front_in : List ℕ → Front → FrontContent
front_in text (fronts.Unfinished count) = FrontContent.Unfinished count
front_in text (fronts.Faulty fault) = FrontContent.Faulty fault
front_in text (fronts.Whole count said) = FrontContent.Whole count (block_in (take count text) said)

-- the place is one of these bytes
abbrev pub IsInside : List ℕ → Block → Type 0
IsInside bytes (blocks.Packet packet) = packet.start + packet.captured ≤ length bytes
IsInside bytes said = Unit {0}

-- a whole block has some bytes, which are there, and its place is one of them
abbrev pub IsFrontInside : List ℕ → Front → Type 0
IsFrontInside text (fronts.Whole count said) = (12 ≤ count) × (count ≤ length text) × IsInside (take count text) said
IsFrontInside text (fronts.Unfinished count) = length text + 1 ≤ count
IsFrontInside text (fronts.Faulty fault) = Unit {0}
