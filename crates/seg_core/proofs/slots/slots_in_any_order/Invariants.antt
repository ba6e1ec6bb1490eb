use Rattle.std.proofs.Common.{length}
use Rattle.seg_core.specs.Slots.{IsMidway}
use Rattle.seg_core.proofs.slots.slots_in_any_order.Given as goal

abbrev pub invariant-loop-field : goal.invariant-loop-field
invariant-loop-field l = IsMidway l.shape l.message l.rest l.misfit l.noted.numbers l.noted.bytes

abbrev pub decreases-loop-field : goal.decreases-loop-field
decreases-loop-field l = length l.rest
