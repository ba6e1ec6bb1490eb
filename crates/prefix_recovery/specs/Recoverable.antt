-- What holds of every trace: what stops leave of each state of its run.
use Rattle.std.specs.Prelude.{◌≡◌, ℕ, ◌≤◌, length, take, drop, All}
use Rattle.sector_dev.specs.Image.{IsFromImage}
use Rattle.sector_dev.specs.Stretch.{Stretch}
use Rattle.store_layout.specs.StoreValues.{value_after}
use Rattle.store_open.specs.Open.{OpensAlike}
use Rattle.store_open.specs.PathStores.{store_format}
use Rattle.group_recovery.specs.RunSteps.{RunView}
use Rattle.group_recovery.specs.RunLeaves.{IsFrontCommitted, RunLeaves}
use Rattle.prefix_recovery.specs.Survival.{Attempt, TraceView, runs_of, end_of}

-- A state of a run that has committed a front of the order.
pub record LeavesFront (trace : TraceView) (run : RunView) : Type 0 where
  -- The length of the front.
  pub done : ℕ
  pub inside : done ≤ length trace.order
  pub value : run.state.value ≡ value_after store_format trace.start.state.value (take done trace.order)
  -- What stops leave since then, by the rest of the order.
  pub leaves : RunLeaves run.state (drop done trace.order) (end_of trace).state

-- A stop within an opening leaves an image that the device had before, or one that opens as such an
-- image does.
abbrev pub OpensAsBefore : Attempt → Type 0
OpensAsBefore attempt = Stretch attempt.before attempt.after (IsFromImage attempt.before.history.now OpensAlike)

-- What holds of every trace.
pub record IsRecoverable (trace : TraceView) : Type 0 where
  pub runs : All (LeavesFront trace) (runs_of trace)
  pub last : IsFrontCommitted trace.start.state trace.order (end_of trace).state
  pub attempts : All OpensAsBefore trace.attempts
