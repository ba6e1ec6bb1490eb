-- The contents of the stores of path segments: databases of rows, and the commands of their
-- journals.
use Rattle.std.specs.Prelude.{◌≡◌, ℕ, List, [], Some}
use Rattle.std.proofs.Common.{refl}
use Rattle.row_map.specs.Database.{RowView}
use Rattle.path_records.specs.RowRecord.{rows_within, rows_decoding}
use Rattle.path_db.specs.declared.command.Command.{Command}
use Rattle.path_db.specs.Command.{database_after}
use Rattle.store_layout.specs.StoreFormat.{StoreFormat}
use Rattle.store_layout.specs.Opening.{OpensTo}
use Rattle.gate_journal.specs.Commands.{command_format}
use Rattle.store_layout.specs.Limits.{latest}
use Rattle.ckpt_pair.specs.Rows.{rows_format}

-- No bytes are the encoding of no rows.
pub no_bytes : rows_format.decoding 0 [] ≡ Some []
unfolding rows_decoding rows_within
no_bytes = refl

-- The format of a store: rows as in checkpoints, commands as in journals, and the rows after each
-- command.
abbrev pub store_format : StoreFormat (List RowView) Command
store_format = record { rows = rows_format; commands = command_format; apply = database_after; empty = []; none = no_bytes }

-- An image opens to these rows at this place, for the versions that are known.
abbrev pub IsStoreOf : List RowView → ℕ → List ℕ → Type 0
IsStoreOf rows place image = OpensTo store_format latest image (record { db = rows; place = place })
