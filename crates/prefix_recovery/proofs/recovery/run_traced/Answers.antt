use Rattle.std.proofs.Common.{◌<◌, ◌∙◌, arith, vec_len, vec_capacity}
use Rattle.group_recovery.proofs.Runs.{pushed_so}
use Rattle.prefix_recovery.proofs.SoFar.{so_far_nothing, so_far_more, so_far_by_replies, replies_so_far, so_far_whole, trace_of_run}
use Rattle.prefix_recovery.proofs.recovery.run_traced.Goals as goal

pub returns-in-Err-clause-trace_so_far : goal.returns-in-Err-clause-trace_so_far
returns-in-Err-clause-trace_so_far g c =
    trace_of_run _ _ _ _ _
    (so_far_nothing c.args.events.now _ c.args.run _ _ (c.reserve.ensures.items ∙ c.new-replies.ensures.items) c.begin-run.ensures.same c.begin-run.ensures.trace)
    c.recovers.ensures

pub loop-i-preserved : goal.loop-i-preserved
loop-i-preserved g c =
    let room : vec_len c.loop-i.replies < vec_capacity c.loop-i.replies = omega (arith, c.loop-i.invariant.room, c.loop-i-test.true) in
    record {
      so_far =
          so_far_more c.args.events.now c.loop-i.i c.loop-i.replies.items c.push.new.self.items c.in-Ok.reply c.args.run c.loop-i.run c.in-Ok.next c.loop-i.trace c.in-Ok.longer c.loop-i-test.true
          (pushed_so c.push.result _ _ _ (c.push.ensures.succeeds room) c.push.ensures.items) c.in-Ok.ensures.trace c.loop-i.invariant.so_far c.in-Ok.ensures.runs;
      room = omega (arith, c.loop-i.invariant.room, c.loop-i-test.true, c.push.ensures.upper_bound, c.push.ensures.capacity);
    }

pub returns-in-Err-step-clause-fewer : goal.returns-in-Err-step-clause-fewer
returns-in-Err-step-clause-fewer g c =
    let made = replies_so_far c.args.events.now c.loop-i.i c.loop-i.replies.items c.args.run c.loop-i.run c.loop-i.trace c.loop-i.invariant.so_far (omega (arith, c.loop-i-test.true)) in
    omega (arith, made, c.loop-i-test.true)

pub returns-in-Err-step-clause-trace_so_far : goal.returns-in-Err-step-clause-trace_so_far
returns-in-Err-step-clause-trace_so_far g c =
    trace_of_run _ _ _ _ _
    (so_far_by_replies c.args.events.now c.loop-i.i c.loop-i.replies.items c.args.run c.loop-i.run c.loop-i.trace c.loop-i.invariant.so_far c.in-Err-step.back
    (omega (arith, c.loop-i-test.true)) c.in-Err-step.ensures.same)
    c.recovers-in-Err-step.ensures

pub returns-in-Err-step-clause-lookups_so_far : goal.returns-in-Err-step-clause-lookups_so_far
returns-in-Err-step-clause-lookups_so_far g c =
    (so_far_by_replies c.args.events.now c.loop-i.i c.loop-i.replies.items c.args.run c.loop-i.run c.loop-i.trace c.loop-i.invariant.so_far c.in-Err-step.back
    (omega (arith, c.loop-i-test.true)) c.in-Err-step.ensures.same).served

pub returns-in-Err-step-clause-runs_so_far : goal.returns-in-Err-step-clause-runs_so_far
returns-in-Err-step-clause-runs_so_far g c =
    (so_far_by_replies c.args.events.now c.loop-i.i c.loop-i.replies.items c.args.run c.loop-i.run c.loop-i.trace c.loop-i.invariant.so_far c.in-Err-step.back
    (omega (arith, c.loop-i-test.true)) c.in-Err-step.ensures.same).runs

pub returns-in-Err-step-clause-steps_so_far : goal.returns-in-Err-step-clause-steps_so_far
returns-in-Err-step-clause-steps_so_far g c =
    (so_far_by_replies c.args.events.now c.loop-i.i c.loop-i.replies.items c.args.run c.loop-i.run c.loop-i.trace c.loop-i.invariant.so_far c.in-Err-step.back
    (omega (arith, c.loop-i-test.true)) c.in-Err-step.ensures.same).leads

pub returns-clause-trace : goal.returns-clause-trace
returns-clause-trace g c =
    trace_of_run _ _ _ _ _
    (so_far_whole c.args.events.now c.loop-i.i c.loop-i.replies.items c.args.run c.loop-i.run c.loop-i.trace c.loop-i.invariant.so_far c.loop-i-test.false)
    c.recovers-2.ensures

pub returns-clause-steps : goal.returns-clause-steps
returns-clause-steps g c =
    (so_far_whole c.args.events.now c.loop-i.i c.loop-i.replies.items c.args.run c.loop-i.run c.loop-i.trace c.loop-i.invariant.so_far c.loop-i-test.false).leads
