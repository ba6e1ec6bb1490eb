use Rattle.std.proofs.Common.{◌≡◌, ◌++◌, [], length}
use Rattle.paced_stream.proofs.buffered.Buffered.send_held.Given as goal

abbrev pub invariant-loop-self : goal.invariant-loop-self
invariant-loop-self g l = record {
  same : g.T.StreamCalls.taken l.self.paced.stream ++ l.self.held.items ≡ g.T.StreamCalls.taken l.fn.self.paced.stream ++ l.fn.self.held.items;
  none : l.fn.self.held.items ≡ [] → l.self.held.items ≡ [];
}

abbrev pub decreases-loop-self : goal.decreases-loop-self
decreases-loop-self g l = length l.self.held.items
