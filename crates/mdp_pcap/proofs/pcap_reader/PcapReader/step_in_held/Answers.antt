use Rattle.std.proofs.Common.{◌≡◌, ◌++◌, ℕ, List, Some, sym, ap, subst, take}
use Rattle.mdp_pcap.specs.File.{front_of, Whole, Faulty}
use Rattle.mdp_pcap.specs.Placing.{block_in}
use Rattle.mdp_pcap.specs.Block.{frames_of}
use Rattle.mdp_pcap.specs.Reader.{ReaderContent, Takes, content_of, numbered}
use Rattle.mdp_pcap.specs.declared.layout.Interface.{Interface}
use Rattle.mdp_pcap.proofs.Readers.{reads_none, went_in_held, stopped_in_held, halts_after}
use Rattle.mdp_pcap.proofs.Fronts.{whole_more}
use Rattle.mdp_pcap.proofs.pcap_reader.PcapReader.step_in_held.Goals as goal

pub returns-in-Faulty-clause-stepped : goal.returns-in-Faulty-clause-stepped
returns-in-Faulty-clause-stepped g c =
    let old = content_of c.args.self.now in
    let fault = c.in-Faulty.fault in
    let stopped : List ℕ → ReaderContent = λ held. record old { held = held; fault = Some fault } in
    let there = subst (λ (held : List ℕ). front_of c.args.self.now.layout c.as_slice.result.now held ≡ Faulty fault) c.as_slice-2.ensures.value (sym {b = front_of c.args.self.now.layout c.as_slice.result.now c.as_slice-2.result.now} c.in-Faulty.ensures.said) in
    let front = subst (λ (interfaces : List Interface). front_of c.args.self.now.layout interfaces c.args.self.now.held.items ≡ Faulty fault) c.as_slice.ensures.value there in
    stopped_in_held g.S.TakesFrames.holds old (stopped c.clear.new.self.items) c.args.rest.now c.args.sink.now fault (ap stopped c.clear.ensures.items) front

pub returns-in-Ok-move_on-clause-stepped : goal.returns-in-Ok-move_on-clause-stepped
returns-in-Ok-move_on-clause-stepped g c =
    let old = content_of c.args.self.now in
    let count = c.in-Whole.count in
    let block = c.in-Whole.block in
    let held = c.args.self.now.held.items in
    let dropped : List ℕ → ReaderContent = λ left. record old { held = left } in
    let there = subst (λ (bytes : List ℕ). front_of c.args.self.now.layout c.as_slice.result.now bytes ≡ Whole count (block_in (take count bytes) block)) c.as_slice-2.ensures.value (sym {b = front_of c.args.self.now.layout c.as_slice.result.now c.as_slice-2.result.now} c.in-Whole.ensures.said) in
    let front = subst (λ (interfaces : List Interface). front_of c.args.self.now.layout interfaces held ≡ Whole count (block_in (take count held) block)) c.as_slice.ensures.value there in
    let taken = subst (λ (bytes : List ℕ). Takes g.S.TakesFrames.holds c.args.sink.now c.hand_on.new.sink (numbered c.args.self.now.number (frames_of (block_in (take count bytes) block)))) c.deref.ensures.value c.in_ok-hand_on-in-Whole.ensures.taken in
    went_in_held g.S.TakesFrames.holds old (dropped c.drop_front.new.bytes.items) (content_of c.move_on.new.self) c.args.rest.now c.args.sink.now c.hand_on.new.sink count block
    (ap dropped c.drop_front.ensures) c.requires front c.in-Ok-move_on.ensures taken

pub returns-in_default-clause-halted : goal.returns-in_default-clause-halted
returns-in_default-clause-halted g c =
    let old = content_of c.args.self.now in
    let text = c.args.self.now.held.items ++ c.args.rest.now in
    (old, (text, reads_none g.S.TakesFrames.holds old text c.args.sink.now))

pub returns-in_default-move_on-clause-halted : goal.returns-in_default-move_on-clause-halted
returns-in_default-move_on-clause-halted g c =
    let holds = g.S.TakesFrames.holds in
    let layout = c.args.self.now.layout in
    let interfaces = c.args.self.now.interfaces.items in
    let count = c.in-Whole.count in
    let block = c.in-Whole.block in
    let held = c.args.self.now.held.items in
    let rest = c.args.rest.now in
    let there = subst (λ (bytes : List ℕ). front_of layout c.as_slice.result.now bytes ≡ Whole count (block_in (take count bytes) block)) c.as_slice-2.ensures.value (sym {b = front_of c.args.self.now.layout c.as_slice.result.now c.as_slice-2.result.now} c.in-Whole.ensures.said) in
    let front = subst (λ (is : List Interface). front_of layout is held ≡ Whole count (block_in (take count held) block)) c.as_slice.ensures.value there in
    let taken = subst (λ (bytes : List ℕ). Takes holds c.args.sink.now c.hand_on.new.sink (numbered c.args.self.now.number (frames_of (block_in (take count bytes) block)))) c.deref.ensures.value c.in_ok-hand_on-in-Whole.ensures.taken in
    halts_after holds (content_of c.args.self.now) (held ++ rest) c.args.sink.now c.hand_on.new.sink count (block_in (take count held) block)
    (whole_more layout interfaces held rest count (block_in (take count held) block) front) taken
