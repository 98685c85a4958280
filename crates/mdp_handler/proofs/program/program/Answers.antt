use Rattle.std.proofs.Common.{inl, inr, arith}
use Rattle.mdp_handler.specs.CommandLine.{texts_of}
use Rattle.mdp_handler.proofs.Asking.{asked_whole}
use Rattle.mdp_handler.proofs.program.program.Goals as goal

-- the words have a fault, since want of memory has status 1
pub returns-in-Err-clause-refused : goal.returns-in-Err-clause-refused
returns-in-Err-clause-refused g c = λ is.
    let refused = c.show.ensures.refused is in
    elim c.in-Err.ensures.fault [
      | inl memory ↦ absurd (omega (arith, is, c.show.ensures.memory memory))
      | inr among ↦ inl ((c.in-Err.error.kind, among, refused.0), refused.1)
    ]

-- nothing was printed of a whole capture
pub returns-in-Ok-clause-unprinted : goal.returns-in-Ok-clause-unprinted
returns-in-Ok-clause-unprinted g c = λ is none.
    c.run_asked.ensures.unprinted is (asked_whole (texts_of c.args.words.now) c.in-Ok.settings c.in-Ok.ensures.settings none)
