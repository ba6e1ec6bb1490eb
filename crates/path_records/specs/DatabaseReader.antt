-- Rows that are read from pieces: the bytes that were fed until now.
use Rattle.std.specs.Prelude.{◌≡◌, ℕ, ◌≤◌, false, List, ◌++◌, length, drop, Err}
use Rattle.path_records.specs.declared.error.DbError.{DbError}
use Rattle.path_records.specs.declared.database_reader.DatabaseReader.TheInside.{Inside}
use Rattle.row_map.specs.Database.{RowView, IsDatabase}
use Rattle.row_map.specs.Row.{row_views}
use Rattle.path_records.specs.RowRecord.{rows_encoding, rows_decoding, has_row}

-- The bytes that were fed: the records of the rows that were read, and the bytes after them.
abbrev pub bytes_fed : Inside → List ℕ
bytes_fed s = rows_encoding (row_views s.rows.items) ++ s.rest.items

-- The rows are a database, and after them there is no whole row.
pub record IsReader (s : Inside) : Type 0 where
  pub database : IsDatabase (row_views s.rows.items)
  pub rest : has_row s.rest.items ≡ false

-- Rows that begin with these bytes are refused for this reason, whatever bytes come after them.
abbrev pub AreRefused : List ℕ → DbError → Type 0
AreRefused bytes e = (behind : List ℕ) → rows_decoding (bytes ++ behind) ≡ Err e

-- The first bytes of a piece were read as rows.
pub record AreReadOn (before after : List RowView) (bytes : List ℕ) (taken : ℕ) : Type 0 where
  -- They are `taken` bytes.
  pub within : taken ≤ length bytes
  -- They are the records of the rows that were read, after those of the rows before.
  pub same : rows_encoding after ++ drop taken bytes ≡ rows_encoding before ++ bytes
  -- All rows that were read are a database.
  pub database : IsDatabase after
  -- After them there is no whole row.
  pub rest : has_row (drop taken bytes) ≡ false

-- The rows are a database, and the bytes are their records.
pub record AreRowsOf (rows : List RowView) (bytes : List ℕ) : Type 0 where
  pub database : IsDatabase rows
  pub records : rows_encoding rows ≡ bytes
