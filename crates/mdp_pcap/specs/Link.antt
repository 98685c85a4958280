-- The link layer of a frame, down to IPv4.
use Rattle.std.specs.Prelude.{ℕ, ◌==◌, ◌||◌, nat_lt, Bool, if◌then◌else◌, List, length, drop, Option, Some, None}
use Rattle.mdp_pcap.specs.Number.{big_at}
use Rattle.mdp_pcap.specs.declared.link.Link.{Link}
use Rattle.mdp_pcap.specs.declared.link.Link.TheVariants as links
use Rattle.mdp_pcap.specs.declared.link.Network.{Network}
use Rattle.mdp_pcap.specs.declared.link.Network.TheVariants as networks

-- the link layers that are read, by their numbers of the list of link types
abbrev pub link_of : ℕ → Option Link
link_of number =
    if number == 1 then Some links.Ethernet
    else if number == 101 then Some links.RawIp
    else if number == 113 then Some links.LinuxCooked
    else if number == 276 then Some links.LinuxCooked2
    else None

-- what stands behind the link layer: something else than IPv4; nothing, since the bytes end before that is told; an
-- IPv4 packet
pub data NetworkContent : Type 0 where
  NotIp : NetworkContent
  Ends : NetworkContent
  Ip : List ℕ → NetworkContent

-- what stands behind an EtherType that is no tag
abbrev pub plain : ℕ → List ℕ → NetworkContent
plain kind rest = if kind == 0x800 then Ip rest else NotIp

-- the EtherTypes of IEEE 802.1Q and 802.1ad tags
abbrev pub is_tag : ℕ → Bool
is_tag kind = kind == 0x8100 || kind == 0x88a8

-- a tag: two bytes of its own, and then the EtherType of what follows
abbrev pub behind_tag : (ℕ → List ℕ → NetworkContent) → ℕ → List ℕ → NetworkContent
behind_tag inner kind rest =
    if is_tag kind then (if nat_lt (length rest) 4 then Ends else inner (big_at 2 2 rest) (drop 4 rest))
    else plain kind rest

-- what stands behind an EtherType, with at most one tag, and with at most two
abbrev pub tagged_once : ℕ → List ℕ → NetworkContent
tagged_once kind rest = behind_tag plain kind rest

abbrev pub tagged : ℕ → List ℕ → NetworkContent
tagged kind rest = behind_tag tagged_once kind rest

-- a link header of so many bytes, which has the EtherType at an offset
abbrev pub linked : ℕ → ℕ → List ℕ → NetworkContent
linked header offset bytes =
    if nat_lt (length bytes) header then Ends else tagged (big_at offset 2 bytes) (drop header bytes)

-- what stands behind the link layer
abbrev pub network_of : Link → List ℕ → NetworkContent
network_of links.Ethernet bytes = linked 14 12 bytes
network_of links.RawIp bytes = Ip bytes
network_of links.LinuxCooked bytes = linked 16 14 bytes
network_of links.LinuxCooked2 bytes = linked 20 0 bytes

-- lent parts, without where they lie in memory
abbrev pub network_content : Network → NetworkContent
network_content networks.NotIp = NotIp
network_content networks.Ends = Ends
network_content (networks.Ip ip) = Ip ip.now
