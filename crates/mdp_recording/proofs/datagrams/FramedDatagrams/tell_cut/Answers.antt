use Rattle.std.proofs.Common.{Some, refl}
use Rattle.mdp_pcap.specs.Outcome.{Cut}
use Rattle.mdp_pipeline.specs.declared.note.Note.TheVariants as notes
use Rattle.mdp_recording.proofs.Framing.{on_ok, one_told}
use Rattle.mdp_recording.proofs.datagrams.FramedDatagrams.tell_cut.Goals as goal

pub returns-in-Some : goal.returns-in-Some
returns-in-Some g c =
    rw c.in-Some.is (on_ok c.tell.result
    (one_told (Cut (Some c.in-Some.field-0)) c.args.number (notes.Cut c.args.number (Some c.in-Some.field-0)) c.args.self.now c.tell.new.self (λ n. refl) refl refl) (rw c.in-Some.is at c.tell.ensures))
