use Rattle.std.proofs.Common.{◌≡◌, ◌++◌, ℕ, List, sym, subst, take}
use Rattle.mdp_pcap.specs.File.{front_of, Whole}
use Rattle.mdp_pcap.specs.Placing.{block_in}
use Rattle.mdp_pcap.specs.Reader.{Takes, content_of, IsReadSome}
use Rattle.mdp_pcap.specs.declared.layout.Interface.{Interface}
use Rattle.mdp_pcap.proofs.Readers.{reads_none, went_in_piece, halts_after}
use Rattle.mdp_pcap.proofs.pcap_reader.PcapReader.step_in_piece.Goals as goal

pub returns-in-Ok-move_on-clause-stepped : goal.returns-in-Ok-move_on-clause-stepped
returns-in-Ok-move_on-clause-stepped g c =
    let rest = c.args.rest.now in
    let count = c.in-Whole.count in
    let block = c.in-Whole.block in
    let front = subst (λ (interfaces : List Interface). front_of c.args.self.now.layout interfaces rest ≡ Whole count (block_in (take count rest) block)) c.as_slice.ensures.value (sym {b = front_of c.args.self.now.layout c.as_slice.result.now rest} c.in-Whole.ensures.said) in
    went_in_piece g.S.TakesFrames.holds (content_of c.args.self.now) (content_of c.move_on.new.self) rest c.args.sink.now c.hand_on.new.sink count block
    c.requires.empty c.requires.going front c.in-Ok-move_on.ensures c.in_ok-hand_on-in-Whole.ensures.taken

pub returns-in_default-clause-halted : goal.returns-in_default-clause-halted
returns-in_default-clause-halted g c =
    let old = content_of c.args.self.now in
    let text = c.args.self.now.held.items ++ c.args.rest.now in
    (old, (text, reads_none g.S.TakesFrames.holds old text c.args.sink.now))

pub returns-in_default-move_on-clause-halted : goal.returns-in_default-move_on-clause-halted
returns-in_default-move_on-clause-halted g c =
    let holds = g.S.TakesFrames.holds in
    let old = content_of c.args.self.now in
    let rest = c.args.rest.now in
    let count = c.in-Whole.count in
    let block = c.in-Whole.block in
    let front = subst (λ (interfaces : List Interface). front_of c.args.self.now.layout interfaces rest ≡ Whole count (block_in (take count rest) block)) c.as_slice.ensures.value (sym {b = front_of c.args.self.now.layout c.as_slice.result.now rest} c.in-Whole.ensures.said) in
    let halted = halts_after holds old rest c.args.sink.now c.hand_on.new.sink count (block_in (take count rest) block) front c.in_ok-hand_on-in-Whole.ensures.taken in
    subst (λ (held : List ℕ). IsReadSome (Takes holds c.args.sink.now c.hand_on.new.sink) old (held ++ rest)) (sym c.requires.empty) halted
