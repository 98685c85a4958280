use Rattle.mdp_lanes.proofs.BoardSteps.{admits, introduces, is_introduced}
use Rattle.mdp_lanes.proofs.board.make_reader.Goals as goal

pub reader-requires : goal.reader-requires
reader-requires g c = admits

pub tell-requires : goal.tell-requires
tell-requires g c = introduces _ _

pub learn-requires-clause-rule : goal.learn-requires-clause-rule
learn-requires-clause-rule g c = is_introduced _ _ _ _
