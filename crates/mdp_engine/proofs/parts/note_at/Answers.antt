use Rattle.std.proofs.Common.{refl}
use Rattle.mdp_engine.proofs.Noting.{list_set}
use Rattle.mdp_engine.proofs.parts.note_at.Goals as goal

pub returns : goal.returns
returns g c = list_set c.args.parts.now c.args.slot c.args.n c.push.new.self _ c.index-parts-slot.result c.requires refl c.in_ok-push.ensures.items
