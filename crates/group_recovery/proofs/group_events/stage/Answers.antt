-- One goal, which the search finds itself.
use Rattle.std.proofs.Common.{rules}
use Rattle.group_recovery.proofs.group_events.stage.Goals as goal

pub returns-in-Err-clause-step : goal.returns-in-Err-clause-step
returns-in-Err-clause-step g c = search rules
