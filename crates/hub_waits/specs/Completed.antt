-- What was completed, after one more guarded call.
use Rattle.std.specs.Prelude.{◌≡◌, ℕ, Option, Some, None}
use Rattle.store_loops.specs.declared.commits.CommitTimes.{CommitTimes}
use Rattle.store_loops.specs.Commits.{one_more, times_after}
use Rattle.hub_waits.specs.declared.completed.Completed.{Completed}
use Rattle.hub_waits.specs.declared.completed.Done.{Done}
use Rattle.hub_waits.specs.declared.completed.Done.TheVariants.{Group, Seal, Checkpoint}

-- The times of commits after one more, whose time may be unknown.
abbrev pub timed : Option ℕ → CommitTimes → CommitTimes
timed None times = times
timed (Some microseconds) times = times_after microseconds times

-- What was completed after a call that has done this. A commit of a group took this time.
abbrev pub completed_after : Done → Option ℕ → Completed → Completed
completed_after Group time old = record old { groups = one_more old.groups; commits = timed time old.commits }
completed_after Seal time old = record old { seals = one_more old.seals }
completed_after Checkpoint time old = record old { checkpoints = one_more old.checkpoints }
completed_after _ time old = old

-- What a call has done was counted. A commit of a group was counted with its time, or with none
-- where the clock could not be read.
pub record HasCounted (done : Done) (old new : Completed) : Type 0 where
  pub time : Option ℕ
  pub counted : new ≡ completed_after done time old
