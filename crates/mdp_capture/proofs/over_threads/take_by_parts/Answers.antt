use Rattle.mdp_capture.proofs.over_threads.take_by_parts.Goals as goal

pub returns-clause-taken : goal.returns-clause-taken
returns-clause-taken g c = rw (c.as_slice-2.ensures.value, c.in_ok-texts.ensures) at c.take_parts.ensures.taken

pub returns-clause-refused : goal.returns-clause-refused
returns-clause-refused g c = rw (c.as_slice-2.ensures.value, c.in_ok-texts.ensures) at c.take_parts.ensures.refused
