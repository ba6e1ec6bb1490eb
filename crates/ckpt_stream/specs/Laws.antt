-- The laws of merging.
use Rattle.std.specs.Prelude.{◌≡◌, ℕ, List, map, true, Option, Some}
use Rattle.std.specs.List.{AllByRecursion}
use Rattle.path_db.specs.declared.command.Command.{Command}
use Rattle.row_map.specs.Database.{RowView, row_under, IsDatabase}
use Rattle.path_db.specs.Command.{database_after_all, HasWholeSegments}
use Rattle.path_db.specs.CommandLaws.{left_under_all}
use Rattle.path_records.specs.declared.key.Key.{Key}
use Rattle.path_records.specs.Key.{key_bytes}
use Rattle.path_records.specs.RowRecord.{rows_encoding}
use Rattle.ckpt_stream.specs.declared.plan.Edit.{Edit}
use Rattle.ckpt_stream.specs.Edits.{edited}
use Rattle.ckpt_stream.specs.Planning.{is_beyond, MakesAll}
use Rattle.ckpt_stream.specs.Merging.{keys_named_by, has_key, KeysRise, Includes, outlives, rows_left, merged}

-- The row that commands leave under a key of these rows.
abbrev pub left_of : List RowView → List Command → List ℕ → Option RowView
left_of rows commands k = left_under_all k (row_under k rows) commands

-- The rows after commands are the rows before, without those that a purge drops, merged with the
-- rows that are left under keys: under the keys that the commands name, and perhaps under others.
abbrev pub MergesAreFolds : Type 0
MergesAreFolds =
    (rows : List RowView) (commands : List Command) (keys : List (List ℕ)) → IsDatabase rows → AllByRecursion HasWholeSegments commands
    → KeysRise keys → Includes keys (keys_named_by commands)
    → merged (left_of rows commands) (outlives commands) keys rows ≡ database_after_all rows commands

-- The keys of all rows are in the list of keys.
abbrev pub AreUnder : List (List ℕ) → List RowView → Type 0
AreUnder keys rows = (k : List ℕ) (row : RowView) → row_under k rows ≡ Some row → has_key keys k ≡ true

-- The rows that are left under the keys of both sides, in the order of the keys, are the rows after
-- commands.
abbrev pub KeysMakeFolds : Type 0
KeysMakeFolds =
    (rows : List RowView) (commands : List Command) (keys : List (List ℕ)) → IsDatabase rows → AllByRecursion HasWholeSegments commands
    → KeysRise keys → Includes keys (keys_named_by commands) → AreUnder keys rows
    → rows_left (left_of rows commands) keys ≡ database_after_all rows commands

-- Edits that were planned for rows turn their records into the records of the rows after commands,
-- where each `Put` writes the row that is left under its key.
abbrev pub PlansMakeFolds : Type 0
PlansMakeFolds =
    (rows : List RowView) (commands : List Command) (keys : List Key) (purged : Option ℕ) (edits : List Edit) (kept : ℕ) (olds : List RowView)
    → IsDatabase rows → AllByRecursion HasWholeSegments commands
    → KeysRise (map key_bytes keys) → Includes (map key_bytes keys) (keys_named_by commands) → ((row : RowView) → is_beyond purged row ≡ outlives commands row)
    → MakesAll keys (is_beyond purged) rows edits kept olds
    → edited edits (map (left_of rows commands) (map key_bytes keys)) (rows_encoding rows) ≡ rows_encoding (database_after_all rows commands)
