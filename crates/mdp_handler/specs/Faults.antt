-- The lines that are told on standard error, each ended by one line feed.
use Rattle.std.specs.Prelude.{◌≡◌, ◌≤◌, ◌<◌, ◌-◌, ◌^◌, ℕ, zero, suc, List, [], ◌∷◌, ◌++◌, Option, None, Some, codes, decimal, unsigned_abs}
use Rattle.std.specs.List.{flat_map}
use Rattle.mdp_capture.specs.declared.fault.CaptureRefusal.{CaptureRefusal}
use Rattle.mdp_capture.specs.declared.skip.SkippedLine.{SkippedLine}
use Rattle.mdp_templates.specs.declared.instrument.Instrument.{Instrument}
use Rattle.mdp_receiver.specs.declared.moved.Jump.{Jump}
use Rattle.mdp_receiver.specs.declared.moved.Loss.{Loss}
use Rattle.mdp_pipeline.specs.declared.ended.EndNote.{EndNote}
use Rattle.mdp_pipeline.specs.declared.ended.EndNote.TheVariants.{Waits, NoSnapshot}
use Rattle.mdp_pipeline.specs.declared.note.Note.{Note}
use Rattle.mdp_pipeline.specs.declared.note.Note.TheVariants.{Skipped, Lost, Found, Cut, Fragment, Broken}
use Rattle.mdp_capture.specs.Faults.{refusal_text, skip_number, skip_name}
use Rattle.mdp_channel.specs.Fault.{channel_fault_name, channel_fault_number}
use Rattle.mdp_channel.specs.declared.fault.ChannelFault.{ChannelFault}
use Rattle.mdp_channel.specs.declared.fault.ChannelFault.TheVariants as channels
use Rattle.mdp_pcap.specs.Fault.{pcap_fault_name, pcap_fault_number}
use Rattle.mdp_pcap.specs.declared.layout.PcapFault.{PcapFault}
use Rattle.mdp_pcap.specs.declared.layout.PcapFault.TheVariants as pcaps
use Rattle.mdp_templates.specs.Feed.{feed_letter}
use Rattle.mdp_templates.specs.declared.feed.Feed.{Feed}
use Rattle.mdp_handler.specs.declared.faults.Place.{Place}
use Rattle.mdp_handler.specs.declared.faults.Place.TheVariants as places

-- memory ran out
abbrev pub memory_line : List ℕ
memory_line = codes "41 Memory\n"

-- a write of the output failed after so many bytes went out
unfoldable pub output_line : ℕ → List ℕ
output_line written = codes "42 Output after " ++ decimal written ++ codes " bytes\n"

-- a read failed
abbrev pub input_line : List ℕ
input_line = codes "43 Input\n"

-- why the capture is refused, and at which line, unless that is line 0
abbrev pub refused_line : ℕ → CaptureRefusal → List ℕ
refused_line line refusal = refusal_text line refusal ++ codes "\n"

-- a line, a frame, or a line of a channel file, of which something is told
abbrev pub place_word : Place → List ℕ
place_word places.Line = codes "line "
place_word places.Frame = codes "frame "
place_word places.ChannelLine = codes "channel line "

abbrev pub place_at : Place → ℕ → List ℕ
place_at place number = place_word place ++ decimal number ++ codes ": "

-- why what stands at a place is skipped
unfoldable pub skipped_at : Place → SkippedLine → List ℕ
skipped_at place skipped =
    place_at place skipped.line
    ++ decimal (skip_number skipped.skip) ++ codes " " ++ skip_name skipped.skip ++ codes "\n"

-- of a line of the capture
abbrev pub skipped_line : SkippedLine → List ℕ
skipped_line skipped = skipped_at places.Line skipped

-- the lines of the capture that are skipped, in their order
abbrev pub skipped_lines : List SkippedLine → List ℕ
skipped_lines = flat_map skipped_line

-- ---- what is told as a capture comes

-- with the record of a line the receiver is lost: the packet that is given up, and the highest that came
unfoldable pub lost_line : Place → ℕ → Loss → List ℕ
lost_line place line loss =
    place_at place line
    ++ codes "51 Lost" ++ codes " " ++ decimal loss.next ++ codes " " ++ decimal loss.highest ++ codes "\n"

-- with the record of a line recovery went on at another number: the packet that was to come next, and that which is now
unfoldable pub found_line : Place → ℕ → Jump → List ℕ
found_line place line jump =
    place_at place line
    ++ codes "52 Found" ++ codes " " ++ decimal jump.old ++ codes " " ++ decimal jump.new ++ codes "\n"

-- the letter of a feed, or a dash where it isn't known
abbrev pub feed_mark : Option Feed → ℕ
feed_mark None = 45
feed_mark (Some feed) = feed_letter feed

-- of a frame whose datagram is lost in the recording
abbrev pub frame_line : Place → ℕ → List ℕ → Option Feed → List ℕ
frame_line place frame name feed = place_at place frame ++ name ++ codes " " ++ feed_mark feed ∷ codes "\n"

abbrev pub note_line : Place → Note → List ℕ
note_line place (Skipped skipped) = skipped_at place skipped
note_line place (Lost line loss) = lost_line place line loss
note_line place (Found line jump) = found_line place line jump
note_line place (Cut frame feed) = frame_line place frame (codes "55 FrameCut") feed
note_line place (Fragment frame feed) = frame_line place frame (codes "56 Fragment") feed
note_line place (Broken frame feed) = frame_line place frame (codes "57 FrameBroken") (Some feed)

abbrev pub note_lines : Place → List Note → List ℕ
note_lines place = flat_map (note_line place)

-- ---- recordings and their channel

abbrev pub channel_place : ChannelFault → List ℕ
channel_place (channels.Line line refusal) = place_at places.ChannelLine line
channel_place channels.NoInstrument = codes "channel: "
channel_place channels.NoAddress = codes "channel: "
channel_place channels.Memory = []

abbrev pub pcap_place : ℕ → PcapFault → List ℕ
pcap_place number pcaps.NotPcap = []
pcap_place number pcaps.LinkType = place_at places.Frame number
pcap_place number pcaps.RecordSize = place_at places.Frame number
pcap_place number pcaps.CutShort = place_at places.Frame number

-- why a channel file is refused
abbrev pub channel_line : ChannelFault → List ℕ
channel_line fault =
    channel_place fault ++ decimal (channel_fault_number fault) ++ codes " " ++ channel_fault_name fault ++ codes "\n"

-- the file of a channel can't be opened or read
abbrev pub unread_line : List ℕ
unread_line = codes "channel: 64 ChannelRead\n"

-- the fault of a recording, where its next frame would have this number
abbrev pub pcap_line : ℕ → PcapFault → List ℕ
pcap_line number fault =
    pcap_place number fault ++ decimal (pcap_fault_number fault) ++ codes " " ++ pcap_fault_name fault ++ codes "\n"

-- at the end so many packets wait for one that never came
unfoldable pub waits_line : ℕ → ℕ → List ℕ
waits_line next held = codes "53 Waits" ++ codes " " ++ decimal next ++ codes " " ++ decimal held ++ codes "\n"

-- at the end the receiver is lost, since this security has no snapshot that includes all that is given up
unfoldable pub stale_line : Instrument → List ℕ
stale_line instrument =
    codes "54 NoSnapshot " ++ decimal (unsigned_abs instrument.id) ++ codes " " ++ instrument.name ++ codes "\n"

abbrev pub end_line : Option EndNote → List ℕ
end_line None = []
end_line (Some (Waits next held)) = waits_line next held
end_line (Some (NoSnapshot instrument)) = stale_line instrument

-- ---- what goes out

-- Of a text all is sent, but for at most so many stretches that are left out. Nothing is sent twice or in another
-- order.
abbrev pub LeavesOut : ℕ → List ℕ → List ℕ → Type 0
LeavesOut zero text sent = sent ≡ text
LeavesOut (suc most) text sent =
    (front : List ℕ) × (gap : List ℕ) × (rest : List ℕ) × (more : List ℕ)
    × (text ≡ front ++ (gap ++ rest)) × (sent ≡ front ++ more) × LeavesOut most rest more

-- A writer took this text and nothing else, but that each write to it that failed left a stretch of it out. Once as
-- many writes failed as can be counted, nothing is known.
pub record Tells {W : Type 0} (failed : W → ℕ) (taken : W → List ℕ) (old new : W) (text : List ℕ) : Type 0 where
  pub failures : failed old ≤ failed new
  pub told : failed new < 2 ^ 64 - 1 → (sent : List ℕ) × (taken new ≡ taken old ++ sent)
      × LeavesOut (failed new - failed old) text sent
