use Rattle.std.proofs.Common.{◌<◌, length}
use Rattle.mdp_capture.specs.Decoded.{KnowsDatagramOf}
use Rattle.mdp_capture.proofs.tests.decoder.decode_all.Given as goal

abbrev pub invariant-loop-text : goal.invariant-loop-text
invariant-loop-text g l = 0 < length l.last → KnowsDatagramOf l.last l.decoder
