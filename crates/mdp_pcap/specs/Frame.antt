-- What a captured frame carries: the link layer, IPv4 (RFC 791) and UDP (RFC 768).
use Rattle.std.specs.Prelude.{ℕ, ◌-◌, ◌*◌, ◌/◌, ◌%◌, ◌==◌, ◌&&◌, not, nat_lt, nat_le, Bool, if◌then◌else◌}
use Rattle.std.specs.Prelude.{List, length, drop, take, slice_index}
use Rattle.mdp_pcap.specs.Number.{big_at}
use Rattle.mdp_pcap.specs.Link.{NetworkContent, NotIp, Ends, Ip, network_of}
use Rattle.mdp_pcap.specs.declared.link.Link.{Link}
use Rattle.mdp_pcap.specs.declared.frame.CapturedFrame.{CapturedFrame}
use Rattle.mdp_pcap.specs.declared.frame.Frame.{Frame}
use Rattle.mdp_pcap.specs.declared.frame.Frame.TheVariants as frames

-- a captured frame: its link layer, its captured bytes, and how many bytes it had on the wire
pub record CapturedContent : Type 0 where
  pub link : Link
  pub bytes : List ℕ
  pub original : ℕ

-- fewer bytes were captured than the frame had
abbrev pub is_cut : CapturedContent → Bool
is_cut captured = nat_lt (length captured.bytes) captured.original

-- no UDP datagram over IPv4; a frame that was cut before its group, or between group and port; a datagram of which not
-- all was captured; a fragment; a datagram whose lengths contradict one another; a datagram
pub data FrameContent : Type 0 where
  Other : FrameContent
  CutBeforeGroup : FrameContent
  CutBeforePort : ℕ → FrameContent
  Cut : ℕ → ℕ → FrameContent
  Fragment : ℕ → FrameContent
  Broken : ℕ → ℕ → FrameContent
  Datagram : ℕ → ℕ → List ℕ → FrameContent

-- a frame whose bytes end before its group: they were cut off, or it is no datagram
abbrev pub unread : Bool → FrameContent
unread cut = if cut then CutBeforeGroup else Other

-- a datagram whose bytes end before it does: they were cut off, or its length is wrong
abbrev pub unended : Bool → ℕ → ℕ → FrameContent
unended cut group port = if cut then Cut group port else Broken group port

-- a UDP datagram with a whole header, which says how many bytes it has; the IPv4 packet has room for so many
abbrev pub sized : Bool → ℕ → ℕ → List ℕ → FrameContent
sized cut group room udp =
    let port = big_at 2 2 udp in
    let size = big_at 4 2 udp in
    if nat_lt size 8 then Broken group port
    else if nat_lt room size then Broken group port
    else if nat_lt (length udp) size then unended cut group port
    else Datagram group port (take (size - 8) (drop 8 udp))

abbrev pub udp_of : Bool → ℕ → ℕ → List ℕ → FrameContent
udp_of cut group room udp =
    if nat_lt (length udp) 4 then (if cut then CutBeforePort group else Other)
    else if nat_lt (length udp) 8 then unended cut group (big_at 2 2 udp)
    else sized cut group room udp

-- the length of an IPv4 header, in its low four bits as a number of words
abbrev pub header_length : List ℕ → ℕ
header_length ip = slice_index ip 0 % 16 * 4

-- an IPv4 packet with a good header length that carries UDP
abbrev pub is_udp : List ℕ → Bool
is_udp ip = slice_index ip 0 / 16 == 4 && nat_le 20 (header_length ip) && slice_index ip 9 == 17

-- a fragment offset, or the flag that more fragments follow
abbrev pub is_fragment : List ℕ → Bool
is_fragment ip = nat_lt 0 (big_at 6 2 ip % 16384)

abbrev pub ip_of : Bool → List ℕ → FrameContent
ip_of cut ip =
    if nat_lt (length ip) 20 then unread cut
    else if not (is_udp ip) then Other
    else if is_fragment ip then Fragment (big_at 16 4 ip)
    else udp_of cut (big_at 16 4 ip) (big_at 2 2 ip - header_length ip) (drop (header_length ip) ip)

abbrev pub over_network : Bool → NetworkContent → FrameContent
over_network cut NotIp = Other
over_network cut Ends = unread cut
over_network cut (Ip ip) = ip_of cut ip

-- what a captured frame carries
abbrev pub frame_of : CapturedContent → FrameContent
frame_of captured = over_network (is_cut captured) (network_of captured.link captured.bytes)

-- lent parts, without where they lie in memory
abbrev pub captured_content : CapturedFrame → CapturedContent
captured_content captured = record { link = captured.link; bytes = captured.bytes.now; original = captured.original }

abbrev pub frame_content : Frame → FrameContent
frame_content frames.Other = Other
frame_content frames.CutBeforeGroup = CutBeforeGroup
frame_content (frames.CutBeforePort group) = CutBeforePort group
frame_content (frames.Cut group port) = Cut group port
frame_content (frames.Fragment group) = Fragment group
frame_content (frames.Broken group port) = Broken group port
frame_content (frames.Datagram group port payload) = Datagram group port payload.now
