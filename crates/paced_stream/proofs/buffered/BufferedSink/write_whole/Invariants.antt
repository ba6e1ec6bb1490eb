use Rattle.std.proofs.Common.{◌++◌, Some, length}
use Rattle.whole_writes.proofs.Fronts.{HasWritten}
use Rattle.paced_stream.proofs.buffered.BufferedSink.write_whole.Given as goal

abbrev pub invariant-loop-rest : goal.invariant-loop-rest
invariant-loop-rest g l = HasWritten (Some (g.T.StreamCalls.taken l.fn.self.paced.stream ++ l.fn.self.held.items)) (Some (g.T.StreamCalls.taken l.self.paced.stream ++ l.self.held.items)) l.bytes l.rest

abbrev pub decreases-loop-rest : goal.decreases-loop-rest
decreases-loop-rest g l = length l.rest
