-- The numbers of the phases of the two actors of a store.
use Rattle.std.specs.Prelude.{ℕ}
use Rattle.group_phases.specs.declared.phases.Flush.{Flush}
use Rattle.group_phases.specs.declared.phases.Flush.TheVariants as flush
use Rattle.group_phases.specs.declared.phases.Check.{Check}
use Rattle.group_phases.specs.declared.phases.Check.TheVariants as check

-- The number of the flusher's phase, in the order of the lines.
abbrev pub flush_number : Flush → ℕ
flush_number flush.Resting = 0
flush_number flush.Staged = 1
flush_number flush.Written = 2
flush_number flush.Stable = 3
flush_number flush.Opened = 4
flush_number flush.Doubtful = 5
flush_number flush.Durable = 6
flush_number flush.Following = 7
flush_number flush.Followed = 8
flush_number flush.DurableFollowed = 9

-- The number of the checkpointer's phase, in the order of the lines.
abbrev pub check_number : Check → ℕ
check_number check.Ready = 0
check_number check.Sealed = 1
check_number check.Planned = 2
check_number check.Laid = 3
check_number check.Switched = 4
check_number check.SwitchFailed = 5
check_number check.Live = 6
check_number check.Closing = 7
check_number check.CloseFailed = 8
