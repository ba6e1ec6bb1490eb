-- Laws of runs one after the other: without a stop between them, and with one.
use Rattle.std.specs.Prelude.{◌≤◌, List, ◌++◌, take}
use Rattle.row_map.specs.Database.{RowView}
use Rattle.path_db.specs.declared.command.Command.{Command}
use Rattle.store_layout.specs.Opening.{StoreValue}
use Rattle.group_recovery.specs.declared.events.Event.{Event}
use Rattle.group_recovery.specs.declared.events.Reply.{Reply}
use Rattle.group_recovery.specs.RunSteps.{RunView, IsRun}
use Rattle.group_recovery.specs.RunLeaves.{RunLeaves, lock_order}
use Rattle.prefix_recovery.specs.Survival.{IsAfterFront}

-- Two runs one after the other are one run of both lists.
abbrev pub RunsCompose : Type 0
RunsCompose =
    (first second : List Event) (replies more : List Reply) (old mid new : RunView)
    → IsRun first replies old mid → IsRun second more mid new → IsRun (first ++ second) (replies ++ more) old new

-- What stops leave of two runs one after the other is what stops leave of one run of both lists.
abbrev pub LeavesCompose : Type 0
LeavesCompose =
    (first second : List Event) (replies more : List Reply) (old mid new : RunView)
    → IsRun first replies old mid
    → RunLeaves old.state (lock_order old.state first replies) mid.state
    → RunLeaves mid.state (lock_order mid.state second more) new.state
    → RunLeaves old.state (lock_order old.state (first ++ second) (replies ++ more)) new.state

-- A store that survived a stop, and what survived a second stop of a run from that store: together
-- the value of the first start after a front of one order, which is what survived of the first
-- order and then the second order.
abbrev pub StopsCompose : Type 0
StopsCompose =
    (start middle last : StoreValue (List RowView)) (order later : List Command)
    → (first : IsAfterFront start order middle) → IsAfterFront middle later last
    → IsAfterFront start (take first.kept order ++ later) last × (middle.place ≤ last.place)
