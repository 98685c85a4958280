use Rattle.mdp_handler.proofs.Telling.{tells_once}
use Rattle.mdp_handler.proofs.faults.tell.Goals as goal

pub returns-then-failures-lt18446744073709551615 : goal.returns-then-failures-lt18446744073709551615
returns-then-failures-lt18446744073709551615 g c =
    tells_once g.F.CountedWrite.failed g.F.CountedWrite.taken c.args.faults.now c.write_all_counted.new.writer c.args.text.now c.write_all_counted.result c.write_all_counted.ensures.taken c.write_all_counted.ensures.failed
