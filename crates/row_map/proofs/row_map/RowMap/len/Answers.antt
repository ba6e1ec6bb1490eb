use Rattle.std.proofs.Common.{arith}
use Rattle.std.specs.Map.{values_of}
use Rattle.std.proofs.lemmas.Map.Entries.{length-values_of}
use Rattle.row_map.proofs.Lens.{rows_short}
use Rattle.row_map.proofs.row_map.RowMap.len.Goals as goal

pub returns-clause-bytes : goal.returns-clause-bytes
returns-clause-bytes c =
    let rows = values_of c.self.inside.rows.entries in
    rw (← c.self.view_is) (omega (arith, rows_short rows, length-values_of c.self.inside.rows.entries, c.len.ensures.len))
