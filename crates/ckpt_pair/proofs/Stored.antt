-- Databases as rows of a checkpoint: for `rows_laws`.
use Rattle.std.proofs.Common.{◌≡◌, ◌+◌, Bool, true, false, leb, List, length, Ok, Err, Some, None, refl, ap, ◌∙◌, arith, eq-eqb}
use Rattle.std.specs.Prelude.{Result, Option, if◌then◌else◌}
use Rattle.byte_lists.specs.Content.{part}
use Rattle.byte_lists.proofs.Contents.{bytes-part}
use Rattle.store_layout.specs.Checkpoint as laws
use Rattle.store_layout.specs.CheckpointReading.{PairRefusal, head_in, rows_size, rows_count, db_in, with_rows}
use Rattle.row_map.specs.Database.{RowView}
use Rattle.path_records.specs.RowRecord.{rows_decoding}
use Rattle.path_records.proofs.RowsBack.{rows_back, rows_spelled}
use Rattle.store_layout.specs.Limits.{latest}
use Rattle.ckpt_pair.specs.Rows.{as_counted, counted_rows, rows_format}
use Rattle.ckpt_pair.specs.Checkpoint.{DatabasesAreStorable, DatabasesCanBeCheckpoints, ReadCheckpointsAreDatabases}
use Rattle.ckpt_pair.proofs.Lengths.{records_len, fewer_rows}

pub storable : DatabasesAreStorable
storable rows is =
    ap (as_counted (length rows)) (rows_back rows is)
    ∙ ap (λ (b : Bool). if b then Some rows else None) (eq-eqb (length rows) (length rows) refl)

pub can_be : DatabasesCanBeCheckpoints
can_be head rows can is small = record {
  head = can;
  size = omega (arith, small, records_len rows);
  count = omega (arith, small, fewer_rows rows);
  storable = storable rows is;
}

db_read : (head : Result laws.Head PairRefusal) (found : Option (List RowView)) (checkpoint : laws.Checkpoint (List RowView))
    → with_rows head found ≡ Ok checkpoint → found ≡ Some checkpoint.db
db_read (Err refusal) found checkpoint is = absurd cc
db_read (Ok head) None checkpoint is = absurd cc
db_read (Ok head) (Some db) checkpoint is = cc

inside : {X : Type 0} (b : Bool) (found : Option X) (x : X) → (if b then found else None) ≡ Some x → found ≡ Some x
inside true found x is = is
inside false found x is = absurd cc

pub read_database : ReadCheckpointsAreDatabases
read_database area checkpoint each is =
    let found = db_read (head_in latest area) (db_in rows_format area) checkpoint is in
    let bytes = part 32 (rows_size area) area in
    let counted = inside (leb (32 + rows_size area) (length area)) (as_counted (rows_count area) (rows_decoding bytes)) checkpoint.db found in
    let read = counted_rows (rows_count area) (rows_decoding bytes) checkpoint.db counted in
    (rows_spelled bytes checkpoint.db (bytes-part 32 (rows_size area) area each) read.0).1
