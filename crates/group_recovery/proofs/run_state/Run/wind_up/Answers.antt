use Rattle.group_recovery.proofs.Runs.{gone_first, gone_ending, gone_to_the_end, gone_redeeming, wound_so}
use Rattle.group_recovery.proofs.run_state.Run.wind_up.Goals as goal

pub loop-event-init : goal.loop-event-init
loop-event-init g c = record { gone = gone_first c.args.self c.stops_leave_fronts.ensures.leaves }

pub loop-event-preserved : goal.loop-event-preserved
loop-event-preserved g c = record {
  gone =
      gone_ending c.endings-endings.result c.loop-event.event-index c.event-item.result c.step.result c.args.self c.loop-event.run c.step.new.self c.endings-endings.ensures c.loop-event-test.true
      c.event-item.is c.loop-event.invariant.gone c.stops_leave_fronts-in-loop-event.ensures.taken c.step.ensures.step c.step.ensures.any_moment;
}

pub loop-k-init : goal.loop-k-init
loop-k-init g c = record {
  gone = gone_to_the_end c.loop-event.event-index c.args.self c.loop-event.run c.loop-event-test.false c.loop-event.auto.event-index-end c.loop-event.invariant.gone;
}

pub loop-k-preserved : goal.loop-k-preserved
loop-k-preserved g c =
    let next = c.step-in-loop-k in
    record {
      gone = gone_redeeming c.loop-k.k next.result c.args.self c.loop-k.run next.new.self c.loop-k.invariant.gone c.stops_leave_fronts-in-loop-k.ensures.taken next.ensures.step next.ensures.any_moment;
    }

pub returns : goal.returns
returns g c = record {
  new = c.loop-k.run;
  wound = wound_so c.loop-k.k c.count-count.result c.args.self c.loop-k.run c.loop-k-test.false c.loop-k.auto.k-end c.count-count.ensures c.loop-k.invariant.gone;
  hands = c.into_device.ensures;
}
