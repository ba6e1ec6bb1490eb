-- What a guarded call has completed is counted.
use Rattle.std.proofs.Common.{◌≡◌, ℕ, Option}
use Rattle.hub_waits.specs.declared.completed.Completed.{Completed}
use Rattle.hub_waits.specs.declared.completed.Done.{Done}
use Rattle.hub_waits.specs.Completed.{completed_after, HasCounted}

pub has_counted : (done : Done) (time : Option ℕ) (old new : Completed) → new ≡ completed_after done time old → HasCounted done old new
has_counted done time old new is = record { time = time; counted = is }
