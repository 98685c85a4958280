use Rattle.mdp_capture.proofs.tests.over_threads.read_in_parts.Given as goal

abbrev pub invariant-loop-bytes : goal.invariant-loop-bytes
invariant-loop-bytes g l =
    (goal.iterator-loop-bytes g).can_next l.bytes-iterator ×
    (goal.iterator-loop-bytes g).is_finite l.bytes-iterator
