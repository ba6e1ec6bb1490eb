use Rattle.std.proofs.Common.{◌≡◌}
use Rattle.paced_stream.proofs.paced.Paced.write.Given as goal

abbrev pub invariant-loop : goal.invariant-loop
invariant-loop g l = record {
  same : g.T.StreamCalls.taken l.self.stream ≡ g.T.StreamCalls.taken l.fn.self.stream;
  frames : l.self.pace.frames ≡ l.fn.self.pace.frames;
}
