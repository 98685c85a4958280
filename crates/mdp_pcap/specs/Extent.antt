-- How captured traffic is cut into blocks. A classic pcap (the libpcap file format, version 2.4) is a file header and
-- packet records; a pcapng (draft-ietf-opsawg-pcapng) is blocks. All three are called blocks here: the first bytes of
-- each say how many it has.
use Rattle.std.specs.Prelude.{ℕ, ◌+◌, ◌%◌, ◌==◌, nat_lt, Bool, is_some, if◌then◌else◌, List, length, Option, Some, None}
use Rattle.std.specs.Prelude.{Result, Ok, Err}
use Rattle.mdp_pcap.specs.Number.{number_in, big_at}
use Rattle.mdp_pcap.specs.declared.number.Endianness.{Endianness}
use Rattle.mdp_pcap.specs.declared.number.Endianness.TheVariants as orders
use Rattle.mdp_pcap.specs.declared.layout.Layout.{Layout}
use Rattle.mdp_pcap.specs.declared.layout.Layout.TheVariants as layouts
use Rattle.mdp_pcap.specs.declared.layout.PcapFault.{PcapFault}
use Rattle.mdp_pcap.specs.declared.layout.PcapFault.TheVariants as faults

-- the byte order of a classic pcap by its magic number: of times in microseconds, and in nanoseconds
abbrev pub file_order : ℕ → Option Endianness
file_order magic =
    if magic == 0xa1b2c3d4 then Some orders.Big
    else if magic == 0xa1b23c4d then Some orders.Big
    else if magic == 0xd4c3b2a1 then Some orders.Little
    else if magic == 0x4d3cb2a1 then Some orders.Little
    else None

-- the byte order of a section by its byte-order magic
abbrev pub section_order : ℕ → Option Endianness
section_order magic =
    if magic == 0x1a2b3c4d then Some orders.Big
    else if magic == 0x4d3c2b1a then Some orders.Little
    else None

-- the type of a section header block, the same in both byte orders
abbrev pub is_section_header : List ℕ → Bool
is_section_header text = big_at 0 4 text == 0x0a0d0d0a

-- a record's header of 16 bytes, and its captured bytes, at most 262,144
abbrev pub record_length : ℕ → Result ℕ PcapFault
record_length captured = if nat_lt 262144 captured then Err faults.RecordSize else Ok (16 + captured)

-- a block's total length: a multiple of 4, from 12 bytes to 16 MiB
abbrev pub block_length : ℕ → Result ℕ PcapFault
block_length total =
    if nat_lt total 12 then Err faults.RecordSize
    else if nat_lt 16777216 total then Err faults.RecordSize
    else if total % 4 == 0 then Ok total
    else Err faults.RecordSize

-- the total length of a section header block, in the byte order that its magic says
abbrev pub section_total : PcapFault → Option Endianness → List ℕ → Result ℕ PcapFault
section_total fault None text = Err fault
section_total fault (Some order) text = block_length (number_in order 4 4 text)

abbrev pub section_length : PcapFault → List ℕ → Result ℕ PcapFault
section_length fault text =
    if nat_lt (length text) 12 then Ok 12 else section_total fault (section_order (big_at 8 4 text)) text

-- How many bytes the block at the front of a text has; where there are too few to tell that, how many tell more. Or why
-- there is no block: what can't be a section header is NotPcap where nothing was read, and a contradiction later.
abbrev pub needed : Layout → List ℕ → Result ℕ PcapFault
needed layouts.Start text =
    if nat_lt (length text) 4 then Ok 4
    else if is_section_header text then section_length faults.NotPcap text
    else if is_some (file_order (big_at 0 4 text)) then Ok 24
    else Err faults.NotPcap
needed (layouts.Records order) text =
    if nat_lt (length text) 16 then Ok 16 else record_length (number_in order 8 4 text)
needed (layouts.Blocks order) text =
    if nat_lt (length text) 8 then Ok 8
    else if is_section_header text then section_length faults.RecordSize text
    else block_length (number_in order 4 4 text)
