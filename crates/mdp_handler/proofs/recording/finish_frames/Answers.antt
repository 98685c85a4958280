use Rattle.std.proofs.Common.{◌≡◌, ◌∙◌, ℕ, Option, None, Some, sym, subst}
use Rattle.std.proofs.lemmas.Result.{err_from_is_err_and}
use Rattle.mdp_pcap.specs.Reader.{content_of, ending_of}
use Rattle.mdp_pcap.specs.declared.layout.PcapFault.{PcapFault}
use Rattle.mdp_pipeline.specs.Output.{standing_in}
use Rattle.mdp_recording.proofs.Recording.{ends_as_recording}
use Rattle.mdp_handler.specs.Faults.{Tells, pcap_line}
use Rattle.mdp_handler.specs.Recording.{refusal_at}
use Rattle.mdp_handler.proofs.Telling.{tells_nothing}
use Rattle.mdp_handler.proofs.Frames.{file_refused, frames_ended, frames_ended_early, frames_faulty}
use Rattle.mdp_handler.proofs.recording.finish_frames.Goals as goal

-- it is refused
pub returns-in-Some-clause-ended : goal.returns-in-Some-clause-ended
returns-in-Some-clause-ended g c = λ channel addresses text start first so_far.
    let fault = c.in-Some.fault in
    let found : refusal_at c.number-number.result c.ending-ending.result ≡ Some fault = sym c.refusal_at.ensures ∙ c.in-Some.is in
    file_refused g.F.CountedWrite.failed g.F.CountedWrite.taken channel addresses text start (g.O.CountedWrite.taken c.args.output.now) c.args.faults.now c.tell_pcap.new.faults first
    c.args.run (record { instruments = c.args.run.instruments; run = c.args.run.datagrams.run }) fault (ends_as_recording c.args.run)
    (subst (λ (n : ℕ). refusal_at n (ending_of (content_of c.args.run.reader)) ≡ Some fault) c.number-number.ensures
    (subst (λ (e : Option PcapFault). refusal_at c.number-number.result e ≡ Some fault) c.ending-ending.ensures found))
    (subst (λ (n : ℕ). Tells g.F.CountedWrite.failed g.F.CountedWrite.taken c.args.faults.now c.tell_pcap.new.faults (pcap_line n fault)) c.number-number.ensures c.tell_pcap.ensures)
    so_far

-- not all of its end was written
pub returns-in_err-finish-clause-begun : goal.returns-in_err-finish-clause-begun
returns-in_err-finish-clause-begun g c =
    let fault = err_from_is_err_and c.from_residual.result c.from_residual.ensures.1 in
    rw fault.1 (λ channel addresses text start first so_far.
    frames_ended_early g.F.CountedWrite.failed g.F.CountedWrite.taken channel addresses text start (g.O.CountedWrite.taken c.args.output.now) (g.O.CountedWrite.taken c.finish.new.writer)
    c.args.faults.now first c.args.run c.into_ended-ended.result c.into_ended-ended.ensures c.in_err-finish.ensures.begins so_far)

-- it is whole
pub returns-in_default-ending-clause-ended : goal.returns-in_default-ending-clause-ended
returns-in_default-ending-clause-ended g c = λ channel addresses text start first so_far.
    (frames_ended g.F.CountedWrite.failed g.F.CountedWrite.taken channel addresses text start (g.O.CountedWrite.taken c.args.output.now) (g.O.CountedWrite.taken c.finish.new.writer)
    c.args.faults.now c.tell_end.new.faults c.tell_end.new.faults first c.args.run c.into_ended-ended.result c.note-note.result (standing_in c.in_ok-finish.field-0) None
    c.into_ended-ended.ensures c.in_ok-finish.ensures.text c.note-note.ensures c.tell_end.ensures (sym c.in_default-ending.is ∙ c.ending-ending.ensures)
    (tells_nothing g.F.CountedWrite.failed g.F.CountedWrite.taken c.tell_end.new.faults) so_far).0

-- it has a fault
pub returns-clause-ended : goal.returns-clause-ended
returns-clause-ended g c = λ channel addresses text start first so_far.
    let fault = c.in-Some-ending.fault in
    let kept : refusal_at c.number-number.result c.ending-ending.result ≡ None = sym c.refusal_at.ensures ∙ c.in_default.is in
    frames_faulty g.F.CountedWrite.failed g.F.CountedWrite.taken channel addresses text start (g.O.CountedWrite.taken c.finish.new.writer) first c.tell_pcap-2.new.faults c.args.run fault
    (frames_ended g.F.CountedWrite.failed g.F.CountedWrite.taken channel addresses text start (g.O.CountedWrite.taken c.args.output.now) (g.O.CountedWrite.taken c.finish.new.writer)
    c.args.faults.now c.tell_end.new.faults c.tell_pcap-2.new.faults first c.args.run c.into_ended-ended.result c.note-note.result (standing_in c.in_ok-finish.field-0) (Some fault)
    c.into_ended-ended.ensures c.in_ok-finish.ensures.text c.note-note.ensures c.tell_end.ensures (sym c.in-Some-ending.is ∙ c.ending-ending.ensures)
    (subst (λ (n : ℕ). Tells g.F.CountedWrite.failed g.F.CountedWrite.taken c.tell_end.new.faults c.tell_pcap-2.new.faults (pcap_line n fault)) c.number-number.ensures c.tell_pcap-2.ensures) so_far)
    (subst (λ (n : ℕ). refusal_at n (Some fault) ≡ None) c.number-number.ensures
    (subst (λ (e : Option PcapFault). refusal_at c.number-number.result e ≡ None) c.in-Some-ending.is kept))
