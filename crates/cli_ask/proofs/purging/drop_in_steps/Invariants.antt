-- Each step is nearer to the last moment, and what drops by the steps from here on drops by all.
use Rattle.std.proofs.Common.{◌-◌, ◌≤◌, List, Option}
use Rattle.session_core.specs.declared.service.Ack.{Ack}
use Rattle.cli_ask.specs.Purging.{HasDropped, first_step}
use Rattle.cli_ask.specs.Talk.{Byte}
use Rattle.cli_ask.proofs.purging.drop_in_steps.Given as goal

abbrev pub invariant-loop-step : goal.invariant-loop-step
invariant-loop-step g l =
    let talk = g.L.Link.talk in
    record {
      within : l.step.moment ≤ l.moment;
      drops : (talk_after : Option (List Byte)) (total_after : Option Ack)
          → HasDropped (talk l.link) talk_after l.moment l.step l.total total_after
          → HasDropped (talk l.fn.link) talk_after l.moment (first_step l.moment) l.fn.total total_after;
    }

abbrev pub decreases-loop-step : goal.decreases-loop-step
decreases-loop-step g l = l.moment - l.step.moment
