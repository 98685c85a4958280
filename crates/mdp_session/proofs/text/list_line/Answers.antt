use Rattle.std.proofs.Common.{ap, ◌∙◌}
use Rattle.mdp_capture.specs.Line.{line_of}
use Rattle.mdp_capture.specs.Listed.{instrument_said}
use Rattle.mdp_session.specs.Listing.{why_in}
use Rattle.mdp_session.proofs.Fronts.{line_answered}
use Rattle.mdp_session.proofs.text.list_line.Goals as goal

pub returns-clause-answer : goal.returns-clause-answer
returns-clause-answer c =
    c.why_in.ensures ∙ ap why_in c.in_ok-answer.ensures.answer ∙ line_answered c.args.list.now (instrument_said (line_of c.args.line.now))
