use Rattle.std.proofs.Common.{◌<◌, ◌∙◌, refl, arith, vec_len, vec_capacity}
use Rattle.group_recovery.proofs.Runs.{so_far_first, pushed_so, so_far_more}
use Rattle.group_recovery.proofs.running.run.Goals as goal

pub loop-event-init : goal.loop-event-init
loop-event-init g c = record {
  so_far = so_far_first _ _ c.args.run refl (c.reserve.ensures.items ∙ c.new-replies.ensures.items) c.stops_leave_fronts.ensures.leaves;
  room = omega (arith, c.in_default.ensures.ok);
}

pub loop-event-preserved : goal.loop-event-preserved
loop-event-preserved g c =
    let room : vec_len c.loop-event.replies < vec_capacity c.loop-event.replies = omega (arith, c.loop-event.invariant.room, c.loop-event-test.true) in
    record {
      so_far =
          so_far_more c.args.events.now c.loop-event.event-index c.event-item.result c.loop-event.replies.items c.push.new.self.items c.step-reply.result c.args.run c.loop-event.run c.step-reply.new.self
          c.loop-event-test.true c.event-item.is (pushed_so c.push.result _ _ _ (c.push.ensures.succeeds room) c.push.ensures.items) c.loop-event.invariant.so_far c.stops_leave_fronts-in-loop-event.ensures.taken
          c.step-reply.ensures.step c.step-reply.ensures.any_moment;
      room = omega (arith, c.loop-event.invariant.room, c.loop-event-test.true, c.push.ensures.upper_bound, c.push.ensures.capacity);
    }
