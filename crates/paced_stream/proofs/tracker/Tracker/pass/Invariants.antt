use Rattle.std.proofs.Common.{◌≡◌, length}
use Rattle.paced_stream.specs.Tracking.{after_bytes}
use Rattle.paced_stream.proofs.tracker.Tracker.pass.Given as goal

abbrev pub invariant-loop-rest : goal.invariant-loop-rest
invariant-loop-rest l = record {
  so_far : after_bytes l.self l.rest ≡ after_bytes l.initial.self l.bytes;
}

abbrev pub decreases-loop-rest : goal.decreases-loop-rest
decreases-loop-rest l = length l.rest
