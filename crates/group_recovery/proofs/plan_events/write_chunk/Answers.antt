-- Goals that the search finds itself.
use Rattle.std.proofs.Common.{rules}
use Rattle.group_recovery.proofs.plan_events.write_chunk.Goals as goal

pub write_chunk-requires : goal.write_chunk-requires
write_chunk-requires g c = search rules

pub returns-in-Ok-clause-step : goal.returns-in-Ok-clause-step
returns-in-Ok-clause-step g c = search rules

pub returns-in-Err-clause-step : goal.returns-in-Err-clause-step
returns-in-Err-clause-step g c = search rules
