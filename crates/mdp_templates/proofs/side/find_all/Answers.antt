use Rattle.std.proofs.Common.{None, arith}
use Rattle.mdp_templates.proofs.Sides.{notes_more}
use Rattle.mdp_templates.proofs.side.find_all.Goals as goal

pub loop-quote-preserved : goal.loop-quote-preserved
loop-quote-preserved g c = notes_more c.args.kind c.loop-quote.quote-index c.args.quotes.now None c.loop-quote.found c.note.new.found c.loop-quote-test.true (omega arith) c.note.ensures c.loop-quote.invariant
