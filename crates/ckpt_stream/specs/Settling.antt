-- Settling: what commands leave under keys, found one command and one key after the other.
use Rattle.std.specs.Prelude.{◌≡◌, ℕ, ◌+◌, ◌-◌, ◌^◌, ◌<◌, List, ◌++◌, length, drop, map, min, Option}
use Rattle.std.specs.List.{AllByRecursion}
use Rattle.path_db.specs.declared.command.Command.{Command}
use Rattle.row_map.specs.Database.{RowView, row_under, IsDatabase}
use Rattle.path_db.specs.Command.{database_after_all, HasWholeSegments}
use Rattle.path_records.specs.Key.{key_bytes}
use Rattle.ckpt_stream.specs.declared.settling.Settling.{Settling}
use Rattle.ckpt_stream.specs.declared.settling.Settled.{Settled}
use Rattle.ckpt_stream.specs.declared.settling.Settled.TheVariants.{More, Done}
use Rattle.ckpt_stream.specs.Merging.{keys_named_by, KeysRise, Includes, outlives}
use Rattle.ckpt_stream.specs.Edits.{views_if_any, bytes_put, count_rows}
use Rattle.ckpt_stream.specs.Planning.{is_beyond, keys_left, MakesAll}
use Rattle.ckpt_stream.specs.declared.planner.Planner.{Planner}
use Rattle.ckpt_stream.specs.Planner.{HasSeen, IsPlanOf}
use Rattle.ckpt_stream.specs.Laws.{left_of}

-- The commands that are not applied yet.
abbrev pub commands_left : Settling → List Command
commands_left settling = drop settling.at settling.commands.items

-- The rows under keys that are not listed yet, once all commands are applied.
abbrev pub rows_to_list : Settling → List (Option RowView)
rows_to_list settling =
    map (λ k. row_under k (database_after_all settling.db (commands_left settling))) (keys_left settling.keys.items (length settling.rows.items))

-- What commands leave under the keys that they name, of these rows, is settled in part.
pub record Settles (rows : List RowView) (commands : List Command) (settling : Settling) : Type 0 where
  pub database : IsDatabase rows
  -- The keys that the commands name are there, in their order.
  pub rise : KeysRise (map key_bytes settling.keys.items)
  pub covers : Includes (map key_bytes settling.keys.items) (keys_named_by commands)
  -- The greatest purge of the commands.
  pub purged : Option ℕ
  pub purges : (row : RowView) → is_beyond purged row ≡ outlives commands row
  -- The edits are those of all rows.
  pub kept : ℕ
  pub counted : settling.kept ≡ min kept (2 ^ 64 - 1)
  pub olds : List RowView
  pub made : MakesAll settling.keys.items (is_beyond purged) rows settling.edits.items kept olds
  -- The first commands are applied.
  pub applied : List Command
  pub split : commands ≡ applied ++ commands_left settling
  pub whole : AllByRecursion HasWholeSegments applied
  -- The rows that are listed and those that are still to be listed are what the commands leave.
  pub listed : views_if_any settling.rows.items ++ rows_to_list settling ≡ map (left_of rows commands) (map key_bytes settling.keys.items)
  -- The bytes and the number of the rows that are listed.
  pub size : settling.size ≡ min (bytes_put (views_if_any settling.rows.items)) (2 ^ 64 - 1)
  pub count : settling.count ≡ min (count_rows (views_if_any settling.rows.items)) (2 ^ 64 - 1)

-- For each database whose rows the planner has seen for the commands, it is settled in part what the
-- commands leave under keys.
abbrev pub SettlesSeen : Planner → List Command → Settling → Type 0
SettlesSeen planner commands settling = (rows : List RowView) → HasSeen commands rows planner → IsDatabase rows → Settles rows commands settling

-- The result of settling on: what the commands leave is settled further, or the plan is there.
abbrev pub SettlesOn : List RowView → List Command → Settled → Type 0
SettlesOn rows commands (More next) = Settles rows commands next
SettlesOn rows commands (Done plan) = IsPlanOf rows commands plan

-- The number of commands and keys that are left.
abbrev pub steps_to_settle : Settling → ℕ
steps_to_settle settling = (length settling.commands.items - settling.at) + (length settling.keys.items - length settling.rows.items)

-- Fewer commands and keys are left, or the plan is there.
abbrev pub HasFewerSteps : Settling → Settled → Type 0
HasFewerSteps settling (More next) = steps_to_settle next < steps_to_settle settling
HasFewerSteps settling (Done plan) = Unit {0}
