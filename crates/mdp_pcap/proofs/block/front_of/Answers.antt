use Rattle.std.proofs.Common.{sym, ◌∙◌}
use Rattle.mdp_pcap.proofs.Needs.{needed_least}
use Rattle.mdp_pcap.proofs.block.front_of.Goals as goal

pub returns-in-Ok-block_of-clause-inside : goal.returns-in-Ok-block_of-clause-inside
returns-in-Ok-block_of-clause-inside c =
    let least = needed_least c.args.layout c.args.text.now c.in-Ok.count (sym c.needed.ensures ∙ c.in-Ok.is) c.if-text-count.false in
    (least, c.if-text-count.false, c.in-Ok-block_of.ensures.inside)
