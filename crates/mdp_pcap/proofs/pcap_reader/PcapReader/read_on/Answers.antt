use Rattle.std.proofs.Common.{◌++◌, ◌+◌, List, ℕ, drop, subst, arith}
use Rattle.std.proofs.lemmas.Result.{err_from_is_err_and}
use Rattle.std.proofs.lemmas.List.{take_rest, drop-drop, length-drop}
use Rattle.mdp_pcap.specs.Reader.{Takes, content_of, HasHalted, IsReadOn, IsReadWhole}
use Rattle.mdp_pcap.specs.Stepping.{HasStepped, HasGoneOn}
use Rattle.mdp_pcap.specs.declared.pcap_reader.Advance.{Advance}
use Rattle.mdp_pcap.proofs.Readers.{reads_join, whole_join, halts_later}
use Rattle.mdp_pcap.proofs.pcap_reader.PcapReader.read_on.Goals as goal

pub loop-count-preserved : goal.loop-count-preserved
loop-count-preserved g c =
    let holds = g.S.TakesFrames.holds in
    let start = content_of c.args.self.now in
    let old = content_of c.loop-count.self in
    let now = content_of c.step.new.self in
    let piece = c.args.piece.now in
    let from = c.loop-count.from in
    let count = c.in-On.count in
    let before = c.loop-count.sink in
    let after = c.step.new.sink in
    let stepped = subst (λ (s : Advance). HasStepped (Takes holds before after) old now (drop from piece) s) c.in-On.is
    (subst (λ (rest : List ℕ). HasStepped (Takes holds before after) old now rest c.in_ok-count.field-0) (take_rest piece from) c.in_ok-count.ensures.stepped) in
    let gone : HasGoneOn (Takes holds before after) old now (drop from piece) count = stepped in
    let read = subst (λ (left : List ℕ). IsReadOn (Takes holds before after) old now (old.held ++ drop from piece) (now.held ++ left)) (drop-drop count from piece) gone.read in
    record {
      going = gone.going;
      fits = omega (arith, gone.fits, length-drop from piece, c.loop-count.invariant.fits);
      so_far = reads_join holds start old now (start.held ++ piece) (old.held ++ drop from piece) (now.held ++ drop (from + count) piece) c.args.sink.now before after c.loop-count.invariant.so_far read;
    }

pub returns-in-Done-clause-read : goal.returns-in-Done-clause-read
returns-in-Done-clause-read g c =
    let holds = g.S.TakesFrames.holds in
    let start = content_of c.args.self.now in
    let old = content_of c.loop-count.self in
    let now = content_of c.step.new.self in
    let piece = c.args.piece.now in
    let from = c.loop-count.from in
    let before = c.loop-count.sink in
    let after = c.step.new.sink in
    let stepped = subst (λ (s : Advance). HasStepped (Takes holds before after) old now (drop from piece) s) c.in-Done.is
    (subst (λ (rest : List ℕ). HasStepped (Takes holds before after) old now rest c.in_ok-count.field-0) (take_rest piece from) c.in_ok-count.ensures.stepped) in
    let whole : IsReadWhole (Takes holds before after) old now (old.held ++ drop from piece) = stepped in
    whole_join holds start old now (start.held ++ piece) (old.held ++ drop from piece) c.args.sink.now before after c.loop-count.invariant.so_far whole

pub returns-in_err-count-clause-halted : goal.returns-in_err-count-clause-halted
returns-in_err-count-clause-halted g c =
    let holds = g.S.TakesFrames.holds in
    let start = content_of c.args.self.now in
    let old = content_of c.loop-count.self in
    let piece = c.args.piece.now in
    let from = c.loop-count.from in
    let before = c.loop-count.sink in
    let after = c.step.new.sink in
    let p = err_from_is_err_and c.from_residual.result c.from_residual.ensures.1 in
    let here = subst (λ (rest : List ℕ). HasHalted (Takes holds before after) old (old.held ++ rest) c.in_err-count.field-0.0) (take_rest piece from) c.in_err-count.ensures.halted in
    rw (p.1, p.2) (halts_later holds start old (start.held ++ piece) (old.held ++ drop from piece) c.args.sink.now before after c.in_err-count.field-0.0 c.loop-count.invariant.so_far here)
