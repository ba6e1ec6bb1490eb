use Rattle.std.proofs.Common.{◌≤◌, ◌-◌, length, drop}
use Rattle.session_core.specs.Frames.{AreWholeFrames}
use Rattle.session_core.specs.Framer.{message_views}
use Rattle.session_core.proofs.framer.whole_frames.Given as goal

abbrev pub invariant-loop-message : goal.invariant-loop-message
invariant-loop-message l = record {
  within : l.used ≤ length l.bytes;
  so_far : AreWholeFrames l.kinds l.bytes (message_views l.messages.items) (drop l.used l.bytes);
}

abbrev pub decreases-loop-message : goal.decreases-loop-message
decreases-loop-message l = length l.bytes - l.used
