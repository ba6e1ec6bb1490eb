-- The relations between the fields of a database.
use Rattle.std.specs.Prelude.{◌≡◌, true, List}
use Rattle.path_db.specs.declared.database.PathDb.TheInside.{Inside}
use Rattle.row_map.specs.declared.end.End.TheVariants.{First, Last}
use Rattle.row_map.specs.declared.end.By.TheVariants.{OneEnd, BothEnds}
use Rattle.row_map.specs.Database.{RowView, IsDatabase, rows_len}
use Rattle.row_map.specs.EndKeys.{index_number, IsRowIndex}

-- The rows of a database's fields.
abbrev pub rows_of_table : Inside → List RowView
rows_of_table s = s.rows

-- What holds for the fields of a database.
pub record IsTable (s : Inside) : Type 0 where
  -- The rows are a database.
  pub database : IsDatabase s.rows
  -- The bytes of the rows' records are counted.
  pub counted : s.bytes ≡ rows_len s.rows
  -- Each index has exactly the rows, where the indexes are kept.
  pub first : s.indexed ≡ true → IsRowIndex (index_number (OneEnd First)) s.rows s.by_first
  pub last : s.indexed ≡ true → IsRowIndex (index_number (OneEnd Last)) s.rows s.by_last
  pub isds : s.indexed ≡ true → IsRowIndex (index_number BothEnds) s.rows s.by_isds
