-- The planner: the rows that it has seen, and the plan that it returns.
use Rattle.std.specs.Prelude.{◌≡◌, ℕ, ◌-◌, ◌^◌, ◌≤◌, List, [], ◌∷◌, ◌++◌, length, map, min, Bool}
use Rattle.path_db.specs.declared.command.Command.{Command}
use Rattle.path_db.specs.declared.command.Command.TheVariants.{Register}
use Rattle.row_map.specs.Database.{RowView, rows_len, IsDatabase}
use Rattle.path_db.specs.Command.{database_after, database_after_all}
use Rattle.path_records.specs.Key.{key_bytes}
use Rattle.path_records.specs.RowRecord.{rows_encoding}
use Rattle.ckpt_stream.specs.declared.plan.Plan.{Plan}
use Rattle.ckpt_stream.specs.declared.planner.Planner.{Planner}
use Rattle.ckpt_stream.specs.Merging.{keys_named_by, KeysRise, Includes, outlives}
use Rattle.ckpt_stream.specs.Edits.{views_if_any, edited, bytes_in, bytes_out}
use Rattle.ckpt_stream.specs.Planning.{is_beyond, IsPlanned, IsAfterKeyPuts}

-- A planner has planned the rows that it has seen.
pub record HasPlanned (seen : List RowView) (planner : Planner) : Type 0 where
  -- The number of rows that are kept.
  pub count : ℕ
  -- The planner has counted them.
  pub counted : planner.kept ≡ min count (2 ^ 64 - 1)
  -- The rows that are under keys. They are registered in the planner's database.
  pub olds : List RowView
  pub registered : planner.olds ≡ database_after [] (Register olds)
  -- The planner's edits are those of the rows.
  pub planned : IsPlanned planner.keys.items (is_beyond planner.purged) seen planner.at planner.edits.items count olds

-- A planner for commands has seen these rows.
pub record HasSeen (commands : List Command) (seen : List RowView) (planner : Planner) : Type 0 where
  -- The planner has the keys that the commands name, in their order.
  pub rise : KeysRise (map key_bytes planner.keys.items)
  pub covers : Includes (map key_bytes planner.keys.items) (keys_named_by commands)
  -- The planner has the greatest purge of the commands.
  pub purges : (row : RowView) → is_beyond planner.purged row ≡ outlives commands row
  -- The planner has planned the rows.
  pub planned : HasPlanned seen planner

-- A planner has seen no row.
pub record IsFresh (planner : Planner) : Type 0 where
  pub at : planner.at ≡ 0
  pub kept : planner.kept ≡ 0
  pub edits : planner.edits.items ≡ []
  pub olds : planner.olds ≡ []

-- What the edit of a row does to a planner, where `found` is whether the row's key is one of the
-- planner's.
pub record PlansOn (found : Bool) (row : RowView) (old new : Planner) : Type 0 where
  -- The keys and the greatest purge are unchanged.
  pub keys : new.keys.items ≡ old.keys.items
  pub purged : new.purged ≡ old.purged
  -- The row is planned too.
  pub more : (seen : List RowView) (count : ℕ) (olds : List RowView) → old.kept ≡ min count (2 ^ 64 - 1) → old.olds ≡ database_after [] (Register olds)
      → IsAfterKeyPuts found row old.keys.items (is_beyond old.purged) seen old.at old.edits.items count olds
      → HasPlanned (seen ++ row ∷ []) new

-- The plan of rows for commands.
pub record IsPlanOf (rows : List RowView) (commands : List Command) (plan : Plan) : Type 0 where
  -- The edits turn the records of the rows into those of the rows after the commands.
  pub makes : edited plan.edits.items (views_if_any plan.rows.items) (rows_encoding rows) ≡ rows_encoding (database_after_all rows commands)
  -- The edits read exactly the records of the rows.
  pub bytes : bytes_in plan.edits.items ≡ rows_len rows
  -- The edits write the records of the rows after.
  pub out : bytes_out plan.edits.items (views_if_any plan.rows.items) ≡ rows_len (database_after_all rows commands)
  -- The plan's size and count are those of the rows after.
  pub size : plan.size ≡ min (rows_len (database_after_all rows commands)) (2 ^ 64 - 1)
  pub count : plan.count ≡ min (length (database_after_all rows commands)) (2 ^ 64 - 1)
  -- The rows after are a database, and there are no more of them than bytes.
  pub database : IsDatabase (database_after_all rows commands)
  pub few : length (database_after_all rows commands) ≤ rows_len (database_after_all rows commands)
