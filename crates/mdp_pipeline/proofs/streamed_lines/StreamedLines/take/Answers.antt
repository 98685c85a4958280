use Rattle.mdp_pipeline.proofs.LinesBehind.{blank_taken}
use Rattle.mdp_pipeline.proofs.streamed_lines.StreamedLines.take.Goals as goal

pub returns-in-Blank-clause-taken : goal.returns-in-Blank-clause-taken
returns-in-Blank-clause-taken g c = rw c.in-Blank.is (blank_taken c.args.self.now)

pub returns-in-Instrument-clause-taken : goal.returns-in-Instrument-clause-taken
returns-in-Instrument-clause-taken g c = rw c.in-Instrument.is c.list.ensures.taken

pub returns-in-Instrument-clause-refused : goal.returns-in-Instrument-clause-refused
returns-in-Instrument-clause-refused g c = rw c.in-Instrument.is c.list.ensures.refused

pub returns-in_ok-take_datagram-in-Datagram-clause-taken : goal.returns-in_ok-take_datagram-in-Datagram-clause-taken
returns-in_ok-take_datagram-in-Datagram-clause-taken g c = rw c.in-Datagram.is c.in_ok-take_datagram-in-Datagram.ensures.taken

pub returns-in_ok-take_close-in-Close-clause-taken : goal.returns-in_ok-take_close-in-Close-clause-taken
returns-in_ok-take_close-in-Close-clause-taken g c = rw c.in-Close.is c.in_ok-take_close-in-Close.ensures.taken

pub returns-in-Skipped-clause-taken : goal.returns-in-Skipped-clause-taken
returns-in-Skipped-clause-taken g c = rw c.in-Skipped.is c.skip.ensures.taken
