use Rattle.std.proofs.Common.{◌≡◌, List, length, map, Ok, Err, sym, ap, ◌∙◌, subst, arith, rules}
use Rattle.std.proofs.lemmas.Result.{IfErr-weaker, IfOk-weaker}
use Rattle.mdp_channel.specs.ChannelFile.{channel_in}
use Rattle.mdp_channel.specs.ChannelLine.{ChannelLine, channel_line, channel_lines}
use Rattle.mdp_channel.proofs.Answering.{ended, fault_is, stopped}
use Rattle.mdp_channel.proofs.Counting.{few_lines}
use Rattle.mdp_channel.proofs.Fronts.{TakesFront, takes_more, takes_none}
use Rattle.mdp_channel.proofs.channel_file.read_channel.Goals as goal

pub loop-line-init : goal.loop-line-init
loop-line-init g c =
    let text = c.args.text.now in
    let same : c.into_iter-line-iterator.result.rest.now ≡ text = search rules in
    record {
      taken = rw same (takes_none (channel_lines text) (channel_in c.new-file.result) c.new-file.ensures);
      few = rw same (let few = few_lines text in omega (arith, few));
    }

pub loop-line-preserved : goal.loop-line-preserved
loop-line-preserved g c =
    let all = channel_lines c.args.text.now in
    let at = c.loop-line in
    let line = channel_line c.in-Some.line.now in
    let left = channel_lines c.next.new.self.rest.now in
    let steps = c.in-Some.ensures.steps in
    let taken = subst (λ (ls : List ChannelLine). TakesFront all ls at.before (channel_in at.file)) (ap (map channel_line) steps) at.invariant.taken in
    let free = sym c.in_ok-refusal.ensures.answer ∙ c.in-None-2.is in
    record {
      taken = takes_more all left line at.before (channel_in at.file) (channel_in c.take_line.new.self) taken free (c.in_ok-refusal.ensures.taken c.in-None-2.is);
      few = omega (arith, ap length steps, at.invariant.few);
    }

pub returns-in-Some-2-clause-fault : goal.returns-in-Some-2-clause-fault
returns-in-Some-2-clause-fault g c =
    let text = c.args.text.now in
    let at = c.loop-line in
    let line = channel_line c.in-Some.line.now in
    let left = channel_lines c.next.new.self.rest.now in
    let taken = subst (λ (ls : List ChannelLine). TakesFront (channel_lines text) ls at.before (channel_in at.file)) (ap (map channel_line) c.in-Some.ensures.steps) at.invariant.taken in
    stopped text left line at.before (channel_in at.file) c.in-Some-2.refusal taken (sym c.in_ok-refusal.ensures.answer ∙ c.in-Some-2.is)

pub returns-clause-channel : goal.returns-clause-channel
returns-clause-channel g c =
    let text = c.args.text.now in
    let at = c.loop-line in
    let taken = subst (λ (ls : List ChannelLine). TakesFront (channel_lines text) ls at.before (channel_in at.file)) (ap (map channel_line) c.in-None.ensures.steps.0) at.invariant.taken in
    IfOk-weaker c.complete.result _ _ (λ file is. ended text at.before (channel_in at.file) (Ok (channel_in file)) taken is) c.complete.ensures.channel

pub returns-clause-fault : goal.returns-clause-fault
returns-clause-fault g c =
    let text = c.args.text.now in
    let at = c.loop-line in
    let taken = subst (λ (ls : List ChannelLine). TakesFront (channel_lines text) ls at.before (channel_in at.file)) (ap (map channel_line) c.in-None.ensures.steps.0) at.invariant.taken in
    IfErr-weaker c.complete.result _ _ (λ fault is. fault_is text fault (ended text at.before (channel_in at.file) (Err fault) taken is)) c.complete.ensures.fault
