use Rattle.std.specs.Prelude.{true}
use Rattle.path_hub.proofs.workload.with_workload.Given as goal
use Rattle.group_core.specs.Starting.{value_of_store}

-- the hub is named by the log of its state
abbrev pub ghosts-named_workload-N-LogName : goal.ghosts-named_workload-N-LogName
ghosts-named_workload-N-LogName g a = record { table = a.name.log.table }

-- by the value of its store
abbrev pub ghosts-named_workload-N-StateName : goal.ghosts-named_workload-N-StateName
ghosts-named_workload-N-StateName g a = record { opening = value_of_store a.store; start = a.store.disk }

-- by the history of what is shown; any seat may be let not in
abbrev pub ghosts-named_workload-N-ReaderName : goal.ghosts-named_workload-N-ReaderName
ghosts-named_workload-N-ReaderName g a = record { shown = a.name.shown.book; shut = true }

-- and by the history that its queue begins with, and the table of its senders; any command may be
-- refused
abbrev pub ghosts-named_workload-N-QueueName : goal.ghosts-named_workload-N-QueueName
ghosts-named_workload-N-QueueName g a = record { history = a.name.history.seen.book; senders = a.name.history.desk.keeper.table_id; refused = λ _ _. true }
