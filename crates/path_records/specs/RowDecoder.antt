-- Ways to read the whole rows at the front of bytes.
use Rattle.std.specs.Prelude.{◌≢◌, ℕ, List, ◌++◌, Vec, Result, IfOk, IfErr}
use Rattle.std.specs.Borrow.{Bor}
use Rattle.std.specs.Global.{Global}
use denote.Param.Members.{Shared}
use Rattle.path_records.specs.declared.error.DbError.{DbError}
use Rattle.path_records.specs.declared.error.DbError.TheVariants.{NoMemory}
use Rattle.row_map.specs.declared.row.Row.{Row}
use Rattle.row_map.specs.Database.{IsDatabase}
use Rattle.row_map.specs.Row.{row_views}
use Rattle.path_records.specs.RowRecord.{rows_encoding}
use Rattle.path_records.specs.DatabaseReader.{AreRefused, AreReadOn}

-- A closure may be called after any rows of a database, and reads rows as `read_on` does.
pub record ReadsRows {F : Type 0} (g : Shared F (Global × (Vec Row Global × (Bor (List ℕ) × Unit {0}))) (Result (Vec Row Global × ℕ) DbError)) (f : F) : Type 0 where
  -- The closure may be called.
  pub allowed : (alloc : Global) (rows : Vec Row Global) (bytes : Bor (List ℕ)) → IsDatabase (row_views rows.items) → g.pre f (alloc, (rows, (bytes, tt)))
  -- It returns the rows that are read.
  pub reads : (alloc : Global) (rows : Vec Row Global) (bytes : Bor (List ℕ)) (result : Result (Vec Row Global × ℕ) DbError) → g.post f (alloc, (rows, (bytes, tt))) result
      → IfOk result (λ read. AreReadOn (row_views rows.items) (row_views read.0.items) bytes.now read.1)
  -- It refuses only what is refused.
  pub refuses : (alloc : Global) (rows : Vec Row Global) (bytes : Bor (List ℕ)) (result : Result (Vec Row Global × ℕ) DbError) → g.post f (alloc, (rows, (bytes, tt))) result
      → IfErr result (λ e. e ≢ NoMemory → AreRefused (rows_encoding (row_views rows.items) ++ bytes.now) e)
