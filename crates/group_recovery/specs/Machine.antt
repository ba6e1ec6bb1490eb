-- The machine that describes every run of a state: rows, a list of commands and a place.
use Rattle.std.specs.Prelude.{ℕ, ◌+◌, List, [], ◌∷◌, ◌++◌, length, take, drop}
use Rattle.row_map.specs.Database.{RowView}
use Rattle.path_db.specs.declared.command.Command.{Command}
use Rattle.store_layout.specs.StoreFormat.{db_after}
use Rattle.seg_lookup.specs.Answer.{answer_to}
use Rattle.seg_lookup.specs.Query.{QueryView}
use Rattle.store_open.specs.PathStores.{store_format}
use Rattle.group_core.specs.StateView.{StateView}

-- The machine that describes a state.
pub record Machine : Type 0 where
  -- The committed rows.
  pub committed : List RowView
  -- The commands that are accepted and not committed yet, in the order of their acceptance.
  pub pending : List Command
  -- The place of the first of these commands.
  pub place : ℕ

-- The machine of a state.
abbrev pub machine_of : StateView → Machine
machine_of view = record { committed = view.value.db; pending = view.pending; place = view.value.place }

-- The machine after a command is accepted.
abbrev pub machine_with_command : Machine → Command → Machine
machine_with_command machine command = record machine { pending = machine.pending ++ command ∷ [] }

-- The machine after the first `n` pending commands are committed.
abbrev pub committed_front : Machine → ℕ → Machine
committed_front machine n = record {
  committed = db_after store_format machine.committed (take n machine.pending);
  pending = drop n machine.pending;
  place = machine.place + length (take n machine.pending);
}

-- The machine after a stop that keeps the first `kept` pending commands: they are committed, and
-- nothing is pending.
abbrev pub reopened : Machine → ℕ → Machine
reopened machine kept = record (committed_front machine kept) { pending = [] }

-- The rows that answer a lookup.
abbrev pub served : Machine → QueryView → ℕ → List RowView
served machine query now = answer_to machine.committed query now
