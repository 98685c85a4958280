use Rattle.std.proofs.Common.{List, inr, subst, sym}
use Rattle.std.proofs.lemmas.List.{reverse-reverse}
use Rattle.mdp_channel.specs.ChannelFile.{channel_in}
use Rattle.mdp_pcap.specs.declared.addresses.FeedAddress.{FeedAddress}
use Rattle.mdp_handler.specs.Faults.{Tells}
use Rattle.mdp_handler.specs.Live.{went}
use Rattle.mdp_handler.specs.Recording.{listed_channel}
use Rattle.mdp_handler.specs.Outcome.{Fails, HasEndedRecording, HasFailedRecording, effects}
use Rattle.mdp_handler.proofs.channel.run_channel.Goals as goal

pub returns-in-Ok-clause-done : goal.returns-in-Ok-clause-done
returns-in-Ok-clause-done g c = λ is.
    let file = c.in-Ok.channel in
    let done = rw c.in-Ok.ensures.untold at (c.run_recording.ensures.done is) in (
      channel_in file,
      c.in-Ok.ensures.channel,
      subst (λ (feeds : List FeedAddress). HasEndedRecording (listed_channel (channel_in file) c.args.settings) feeds (g.I.CountedRead.rest c.args.input.now)
          (went (g.O.CountedWrite.taken c.args.output.now) (g.O.CountedWrite.taken c.run_recording.new.output) (Tells g.F.CountedWrite.failed g.F.CountedWrite.taken c.args.faults.now c.run_recording.new.faults)))
          (sym (reverse-reverse file.addresses)) done,
    )

pub returns-in-Ok-clause-failed : goal.returns-in-Ok-clause-failed
returns-in-Ok-clause-failed g c = λ is.
    let file = c.in-Ok.channel in
    let failed = rw c.in-Ok.ensures.untold at (c.run_recording.ensures.failed is) in
    inr (
      channel_in file,
      c.in-Ok.ensures.channel,
      subst (λ (feeds : List FeedAddress). HasFailedRecording (listed_channel (channel_in file) c.args.settings) feeds (g.I.CountedRead.rest c.args.input.now)
          (Fails g.I.CountedRead.failed c.args.input.now c.run_recording.new.input)
          (effects (Fails g.O.CountedWrite.failed c.args.output.now c.run_recording.new.output) (g.O.CountedWrite.taken c.args.output.now) (g.O.CountedWrite.taken c.run_recording.new.output)
          (Tells g.F.CountedWrite.failed g.F.CountedWrite.taken c.args.faults.now c.run_recording.new.faults)))
          (sym (reverse-reverse file.addresses)) failed,
    )
