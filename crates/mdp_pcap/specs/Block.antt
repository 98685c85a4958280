-- What the blocks of captured traffic say: which of a classic pcap's or a pcapng's kinds one is depends on what was
-- read before.
use Rattle.std.specs.Prelude.{ℕ, ◌+◌, ◌-◌, ◌%◌, ◌==◌, min, nat_lt, if◌then◌else◌, List, [], ◌∷◌, ◌++◌, length}
use Rattle.std.specs.Prelude.{take, drop, slice_get, Option, Some, None, Result, Ok, Err}
use Rattle.mdp_pcap.specs.Number.{number_in, big_at}
use Rattle.mdp_pcap.specs.Link.{link_of}
use Rattle.mdp_pcap.specs.Frame.{CapturedContent}
use Rattle.mdp_pcap.specs.Extent.{file_order, section_order, is_section_header}
use Rattle.mdp_pcap.specs.declared.number.Endianness.{Endianness}
use Rattle.mdp_pcap.specs.declared.link.Link.{Link}
use Rattle.mdp_pcap.specs.declared.packet.Body.{Body}
use Rattle.mdp_pcap.specs.declared.layout.Interface.{Interface}
use Rattle.mdp_pcap.specs.declared.layout.Layout.{Layout}
use Rattle.mdp_pcap.specs.declared.layout.Layout.TheVariants as layouts
use Rattle.mdp_pcap.specs.declared.layout.PcapFault.{PcapFault}
use Rattle.mdp_pcap.specs.declared.layout.PcapFault.TheVariants as faults

-- what was read says of what follows: which kind of block, and of which interfaces its frames may be
pub record Reading : Type 0 where
  pub layout : Layout
  pub interfaces : List Interface

-- a file header; a section header; the description of an interface; a frame; a block that is stepped over
pub data BlockContent : Type 0 where
  FileHeader : Endianness → Interface → BlockContent
  SectionHeader : Endianness → BlockContent
  InterfaceDescription : Interface → BlockContent
  Packet : CapturedContent → BlockContent
  Skipped : BlockContent

-- a block of a kind that has so many bytes at least
abbrev pub at_least : ℕ → List ℕ → Result BlockContent PcapFault → Result BlockContent PcapFault
at_least least block content = if nat_lt (length block) least then Err faults.RecordSize else content

abbrev pub interface_of : ℕ → ℕ → Interface
interface_of link_type snap_length = record { link_type = link_type; snap_length = snap_length }

-- the header of a classic pcap: version 2.4, the link type in the low 16 bits of its last number
abbrev pub file_header_in : Endianness → List ℕ → Result BlockContent PcapFault
file_header_in order block =
    if number_in order 4 2 block == 2 then
    (if number_in order 6 2 block == 4 then
    Ok (FileHeader order (interface_of (number_in order 20 4 block % 65536) (number_in order 16 4 block)))
    else Err faults.NotPcap)
    else Err faults.NotPcap

abbrev pub file_header : Option Endianness → List ℕ → Result BlockContent PcapFault
file_header None block = Err faults.NotPcap
file_header (Some order) block = file_header_in order block

-- a section header: its major version is 1; what it says else is not needed
abbrev pub section_header : PcapFault → Option Endianness → List ℕ → Result BlockContent PcapFault
section_header fault None block = Err fault
section_header fault (Some order) block =
    if number_in order 12 2 block == 1 then Ok (SectionHeader order) else Err fault

-- the description of an interface
abbrev pub interface_description : Endianness → List ℕ → Result BlockContent PcapFault
interface_description order block =
    Ok (InterfaceDescription (interface_of (number_in order 8 2 block) (number_in order 12 4 block)))

-- a frame with these captured bytes, of an interface whose link type must be read
abbrev pub packet_over : Option Link → List ℕ → ℕ → Result BlockContent PcapFault
packet_over None bytes original = Err faults.LinkType
packet_over (Some link) bytes original = Ok (Packet (record { link = link; bytes = bytes; original = original }))

-- where a kind of block has the captured bytes of its frame: from an offset on, with so many bytes after them
abbrev pub record_body : Body
record_body = record { start = 16; tail = 0 }

abbrev pub enhanced_body : Body
enhanced_body = record { start = 28; tail = 4 }

abbrev pub simple_body : Body
simple_body = record { start = 12; tail = 4 }

-- a frame of so many captured bytes, of so many on the wire
abbrev pub packet_in : Body → ℕ → ℕ → Interface → List ℕ → Result BlockContent PcapFault
packet_in body captured original interface block =
    if nat_lt 262144 captured then Err faults.RecordSize
    else if nat_lt (length block) (body.start + captured + body.tail) then Err faults.RecordSize
    else packet_over (link_of interface.link_type) (take captured (drop body.start block)) original

-- a record of a classic pcap
abbrev pub packet_record : Endianness → Option Interface → List ℕ → Result BlockContent PcapFault
packet_record order None block = Err faults.RecordSize
packet_record order (Some interface) block =
    packet_in record_body (number_in order 8 4 block) (number_in order 12 4 block) interface block

-- an enhanced packet block
abbrev pub enhanced_packet : Endianness → Option Interface → List ℕ → Result BlockContent PcapFault
enhanced_packet order None block = Err faults.RecordSize
enhanced_packet order (Some interface) block =
    packet_in enhanced_body (number_in order 20 4 block) (number_in order 24 4 block) interface block

-- how many bytes of a frame are captured where so many are at most, and all of them where that is 0
abbrev pub snapped : ℕ → ℕ → ℕ
snapped snap_length original = if snap_length == 0 then original else min snap_length original

-- a simple packet block: a frame of the section's first interface
abbrev pub simple_packet : Endianness → Option Interface → List ℕ → Result BlockContent PcapFault
simple_packet order None block = Err faults.RecordSize
simple_packet order (Some interface) block =
    let original = number_in order 8 4 block in
    packet_in simple_body (snapped interface.snap_length original) original interface block

-- a block of a section, by its type
abbrev pub section_block : Endianness → List Interface → List ℕ → Result BlockContent PcapFault
section_block order interfaces block =
    let kind = number_in order 0 4 block in
    let id = number_in order 8 4 block in
    if kind == 1 then at_least 20 block (interface_description order block)
    else if kind == 3 then at_least 16 block (simple_packet order (slice_get interfaces 0) block)
    else if kind == 6 then at_least 32 block (enhanced_packet order (slice_get interfaces id) block)
    else Ok Skipped

-- a block of pcapng ends with its total length, as it begins with it
abbrev pub closed : Option Endianness → List ℕ → Result BlockContent PcapFault → Result BlockContent PcapFault
closed None block content = content
closed (Some order) block content =
    if number_in order (length block - 4) 4 block == length block then content else Err faults.RecordSize

abbrev pub new_section : PcapFault → List ℕ → Result BlockContent PcapFault
new_section fault block =
    let order = section_order (big_at 8 4 block) in
    at_least 28 block (closed order block (section_header fault order block))

-- what a whole block says that stands where this is read
abbrev pub block_of : Layout → List Interface → List ℕ → Result BlockContent PcapFault
block_of layouts.Start interfaces block =
    if is_section_header block then new_section faults.NotPcap block
    else at_least 24 block (file_header (file_order (big_at 0 4 block)) block)
block_of (layouts.Records order) interfaces block =
    at_least 16 block (packet_record order (slice_get interfaces 0) block)
block_of (layouts.Blocks order) interfaces block =
    if is_section_header block then new_section faults.RecordSize block
    else closed (Some order) block (section_block order interfaces block)

-- what is read after a block
abbrev pub read_on : Reading → BlockContent → Reading
read_on reading (FileHeader order interface) = record { layout = layouts.Records order; interfaces = interface ∷ [] }
read_on reading (SectionHeader order) = record { layout = layouts.Blocks order; interfaces = [] }
read_on reading (InterfaceDescription interface) =
    record { layout = reading.layout; interfaces = reading.interfaces ++ interface ∷ [] }
read_on reading (Packet captured) = reading
read_on reading Skipped = reading

-- the frame of a block, if it is one's
abbrev pub frames_of : BlockContent → List CapturedContent
frames_of (FileHeader order interface) = []
frames_of (SectionHeader order) = []
frames_of (InterfaceDescription interface) = []
frames_of (Packet captured) = captured ∷ []
frames_of Skipped = []
