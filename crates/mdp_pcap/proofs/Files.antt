-- The law that each text holds one thing.
use Rattle.std.proofs.Common.{◌≡◌, ℕ, List, sym, ap, ◌∙◌, refl, Option}
use Rattle.std.specs.List.{flat_map}
use Rattle.mdp_pcap.specs.Frame.{CapturedContent}
use Rattle.mdp_pcap.specs.Block.{frames_of}
use Rattle.mdp_pcap.specs.File.{PcapContent, IsPcap, HasOnePcap, at_start}
use Rattle.mdp_pcap.specs.declared.layout.PcapFault.{PcapFault}
use Rattle.mdp_pcap.proofs.Blocks.{reads, one_reading}

abbrev holding : List CapturedContent → Option PcapFault → PcapContent
holding frames fault = record { frames = frames; fault = fault }

one_pcap : (text : List ℕ) (p q : PcapContent) → IsPcap text p → IsPcap text q → p ≡ q
one_pcap text p q a b =
    let same = one_reading at_start text a.blocks b.blocks a.now b.now a.left b.left p.fault q.fault a.follow b.follow a.ends b.ends in
    let frames : p.frames ≡ q.frames = sym a.frames_are ∙ ap (flat_map frames_of) same.0 ∙ b.frames_are in
    ap (λ (fs : List CapturedContent). holding fs p.fault) frames ∙ ap (λ (f : Option PcapFault). holding q.frames f) same.1

-- each text holds one thing
pub one_answer : (text : List ℕ) → HasOnePcap text
one_answer text =
    let r = reads at_start text in
    let pcap : PcapContent = holding (flat_map frames_of r.blocks) r.fault in
    let is : IsPcap text pcap = record { blocks = r.blocks; now = r.now; left = r.left; follow = r.follow; ends = r.ends; frames_are = refl } in
    record { pcap = pcap; is = is; only = λ other p. one_pcap text other pcap p is }
