-- The lengths of the records of rows: for `encoding` and `rows_laws`.
use Rattle.std.proofs.Common.{◌≡◌, ℕ, suc, ◌+◌, ◌≤◌, List, [], ◌∷◌, ◌++◌, length, take, refl, sym, ap, ◌∙◌, arith, append_assoc}
use Rattle.std.specs.Int.{w32, to_be_bytes}
use Rattle.std.proofs.lemmas.List.{length-append}
use Rattle.std.proofs.lemmas.List.Concat.{flat_map-cons}
use Rattle.std.proofs.lemmas.List.Sums.{sum_by-cons}
use Rattle.seg_core.specs.Encoding.{segment_encoding}
use Rattle.row_map.specs.Database.{RowView, row_len, rows_len}
use Rattle.path_records.specs.RowRecord.{row_record, rows_encoding}

record_len : (row : RowView) → length (row_record row) ≡ row_len row
unfolding row_record
record_len row = ap suc (length-append (to_be_bytes w32 (length (segment_encoding row.1))) (segment_encoding row.1)) ∙ omega arith

pub records_len : (rows : List RowView) → length (rows_encoding rows) ≡ rows_len rows
records_len [] = refl
records_len (row ∷ rows) =
    let split = ap length (flat_map-cons row_record row rows) ∙ length-append (row_record row) (rows_encoding rows) in
    omega (arith, split, record_len row, records_len rows, sum_by-cons row_len row rows)

-- there are no more rows than bytes
pub fewer_rows : (rows : List RowView) → length rows ≤ rows_len rows
fewer_rows [] = omega arith
fewer_rows (row ∷ rows) = omega (arith, fewer_rows rows, sum_by-cons row_len row rows)

-- bytes that are put after the bytes before an offset
pub put_behind : (at n : ℕ) (old new before bytes : List ℕ) → take at old ≡ before → length bytes ≡ n → take (at + length bytes) new ≡ take at old ++ bytes → take (at + n) new ≡ before ++ bytes
put_behind at n old new before bytes is size put =
    ap (λ (k : ℕ). take (at + k) new) (sym size) ∙ put ∙ ap (λ (list : List ℕ). list ++ bytes) is

-- six parts and the bytes after them, one after the other
pub six_parts : (a b c d e f rows : List ℕ) → (((((a ++ b) ++ c) ++ d) ++ e) ++ f) ++ rows ≡ (a ++ (b ++ (c ++ d))) ++ (e ++ (f ++ rows))
six_parts a b c d e f rows =
    append_assoc ((((a ++ b) ++ c) ++ d) ++ e) f rows
    ∙ append_assoc (((a ++ b) ++ c) ++ d) e (f ++ rows)
    ∙ ap (λ (list : List ℕ). list ++ (e ++ (f ++ rows))) (append_assoc (a ++ b) c d ∙ append_assoc a b (c ++ d))
