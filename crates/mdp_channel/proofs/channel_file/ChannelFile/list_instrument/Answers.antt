use Rattle.std.proofs.Common.{List, sym, ap, ◌∙◌}
use Rattle.mdp_capture.specs.Line.{line_of}
use Rattle.mdp_capture.specs.Listed.{instrument_said}
use Rattle.mdp_templates.specs.declared.instrument.Instrument.{Instrument}
use Rattle.mdp_channel.specs.Channel.{refusal_in}
use Rattle.mdp_channel.specs.ChannelFile.{channel_in}
use Rattle.mdp_channel.proofs.Listings.{channel, listing_answered, listing_taken}
use Rattle.mdp_channel.proofs.channel_file.ChannelFile.list_instrument.Goals as goal

pub returns-clause-answer : goal.returns-clause-answer
returns-clause-answer g c =
    c.refusal_in.ensures ∙ ap refusal_in c.in_ok-answer.ensures.answer
    ∙ listing_answered (channel_in c.args.self.now) (instrument_said (line_of c.args.line.now))

pub returns-clause-taken : goal.returns-clause-taken
returns-clause-taken g c = λ none.
    let old = channel_in c.args.self.now in
    let said = instrument_said (line_of c.args.line.now) in
    let free = sym (listing_answered old said) ∙ ap refusal_in (sym c.in_ok-answer.ensures.answer) ∙ sym c.refusal_in.ensures ∙ none in
    ap (λ (is : List Instrument). channel is old.addresses) c.in_ok-answer.ensures.list ∙ listing_taken old said free
