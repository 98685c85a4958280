use Rattle.std.proofs.Common.{refl, sym}
use Rattle.mdp_capture.specs.declared.skip.Skip.TheVariants.{TooLong as SkippedTooLong}
use Rattle.mdp_pcap.specs.Outcome.{Broken, Fragment, NoFeed, TooLong}
use Rattle.mdp_pipeline.specs.declared.note.Note.TheVariants as notes
use Rattle.mdp_recording.proofs.Framing.{nothing_told, on_ok, one_told, or_false}
use Rattle.mdp_recording.proofs.datagrams.FramedDatagrams.take_outcome.Goals as goal

pub returns-in-NoFeed : goal.returns-in-NoFeed
returns-in-NoFeed g c = rw c.in-NoFeed.is (nothing_told NoFeed c.args.number c.args.self.now (λ n. refl) (sym (or_false c.args.self.now.has_cut)) refl)

pub returns-in-TooLong : goal.returns-in-TooLong
returns-in-TooLong g c =
    rw c.in-TooLong.is (on_ok c.tell.result
    (one_told (TooLong c.in-TooLong.field-0) c.args.number (notes.Skipped (record { line = c.args.number; skip = SkippedTooLong })) c.args.self.now c.tell.new.self (λ n. refl) refl refl) c.tell.ensures)

pub returns-in-Fragment : goal.returns-in-Fragment
returns-in-Fragment g c =
    rw c.in-Fragment.is (on_ok c.tell-in-Fragment.result
    (one_told (Fragment c.in-Fragment.feed) c.args.number (notes.Fragment c.args.number c.in-Fragment.feed) c.args.self.now c.tell-in-Fragment.new.self (λ n. refl) refl refl) c.tell-in-Fragment.ensures)

pub returns-in-Broken : goal.returns-in-Broken
returns-in-Broken g c =
    rw c.in-Broken.is (on_ok c.tell-in-Broken.result
    (one_told (Broken c.in-Broken.feed) c.args.number (notes.Broken c.args.number c.in-Broken.feed) c.args.self.now c.tell-in-Broken.new.self (λ n. refl) refl refl) c.tell-in-Broken.ensures)
