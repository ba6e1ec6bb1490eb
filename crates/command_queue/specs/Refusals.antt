-- When a queue takes no command.
use Rattle.std.specs.Prelude.{ℕ, ◌-◌, ◌^◌, ◌==◌, nat_le, Bool, if◌then◌else◌, Option, Some, None, is_some}
use Rattle.command_queue.specs.declared.not_queued.NotQueued.{NotQueued}
use Rattle.command_queue.specs.declared.not_queued.NotQueued.TheVariants.{Closed, Full, Exhausted}
use Rattle.command_queue.specs.declared.not_queued.TheConstants.{MOST_WAITING}

-- Why a queue takes no command, apart from want of memory: it is closed, or else 8,448 commands
-- wait, or else no number is left.
abbrev pub queue_refusal : Bool → ℕ → ℕ → Option NotQueued
queue_refusal is_closed waiting next =
    if is_closed then Some Closed else if nat_le MOST_WAITING waiting then Some Full else if next == 2 ^ 64 - 1 then Some Exhausted else None

-- Why a queue passes on no command that does not wait: it takes none, or else other commands wait,
-- as they would come after that one.
abbrev pub pass_refusal : Bool → ℕ → ℕ → Option NotQueued
pass_refusal is_closed waiting next =
    if is_some (queue_refusal is_closed waiting next) then queue_refusal is_closed waiting next else if waiting == 0 then None else Some Full
