-- The rows that bytes are read as, given the rows that a cursor returned: for the crates above.
use Rattle.std.proofs.Common.{◌≡◌, ℕ, zero, suc, ◌<◌, Bool, true, false, List, [], ◌∷◌, ◌++◌, length, drop, refl, sym, ap, ◌∙◌, arith, append_assoc, Ok, Err}
use Rattle.std.specs.Prelude.{Result, Option, Some}
use Rattle.std.proofs.lemmas.List.{length-append}
use Rattle.row_map.specs.Database.{RowView}
use Rattle.path_records.specs.declared.error.DbError.{DbError}
use Rattle.path_records.specs.declared.error.DbError.TheVariants.{BadRecord, Order}
use Rattle.path_records.specs.RecordSteps.{◌>>=◌, demand}
use Rattle.seg_core.specs.Message.{last_of}
use Rattle.path_records.specs.RowRecord.{rows_encoding, row_size, has_row, row_decoding, is_row_above, rows_within, rows_decoding}
use Rattle.path_records.specs.RowCursor.{CursorView, HasGiven}
use Rattle.path_records.proofs.RowPieces.{all_read, cut_off}
use Rattle.path_records.proofs.RowsRead.{rows_behind}
use Rattle.path_records.proofs.Refused.{behind_database}

module _ (fed : List ℕ) (given : List RowView) (cursor : CursorView) (is : HasGiven fed given cursor) where
  -- where no bytes are left, the rows that were returned are all
  pub given_all : length cursor.rest ≡ 0 → rows_decoding fed ≡ Ok given
  given_all none = ap rows_decoding (sym is.split) ∙ all_read given cursor.rest is.database none

  -- where bytes are left but no whole row, the bytes are not rows
  pub given_cut : 0 < length cursor.rest → has_row cursor.rest ≡ false → rows_decoding fed ≡ Err BadRecord
  given_cut some none = ap rows_decoding (sym is.split) ∙ cut_off given cursor.rest is.database some none

-- The rows are the returned rows and others, and there are others where bytes are left.
pub record BeginsWith (given rows : List RowView) (rest : List ℕ) : Type 0 where
  pub others : List RowView
  pub split : rows ≡ given ++ others
  pub more : 0 < length rest → 0 < length others

others_of : (given : List RowView) (read : Result (List RowView) DbError) (rows : List RowView) → (read >>= λ others. let r : Result (List RowView) DbError = Ok (given ++ others) in r) ≡ Ok rows
    → (others : List RowView) × (read ≡ Ok others) × (rows ≡ given ++ others)
others_of given (Ok others) rows is = (others, refl, cc)
others_of given (Err e) rows is = absurd cc

one_at_least : (before : Option RowView) (b : ℕ) (bytes : List ℕ) (row : Result RowView DbError) (rest : RowView → Result (List RowView) DbError) (others : List RowView)
    → (row >>= λ row. demand (is_row_above before row) Order >>= λ _. rest row >>= λ rows. let r : Result (List RowView) DbError = Ok (row ∷ rows) in r) ≡ Ok others → 0 < length others
one_at_least before b bytes (Ok row) rest others is = by_order (is_row_above before row) (rest row) is
  where
    by_order : (above : Bool) (rows : Result (List RowView) DbError)
        → (demand above Order >>= λ _. rows >>= λ rows. let r : Result (List RowView) DbError = Ok (row ∷ rows) in r) ≡ Ok others → 0 < length others
    by_order true (Ok rows) is = let e : row ∷ rows ≡ others = cc in omega (arith, ap length e)
    by_order true (Err e) is = absurd cc
    by_order false rows is = absurd cc
one_at_least before b bytes (Err e) rest others is = absurd cc

some_within : (n : ℕ) (before : Option RowView) (bytes : List ℕ) (others : List RowView) → length bytes ≡ n → rows_within n before bytes ≡ Ok others → 0 < n → 0 < length others
unfolding rows_within
some_within n before [] others size is some = absurd (omega arith)
some_within zero before (b ∷ bytes) others size is some = absurd (omega arith)
some_within (suc n) before (b ∷ bytes) others size is some =
    one_at_least before b bytes (row_decoding (b ∷ bytes)) (λ row. rows_within n (Some row) (drop (row_size (b ∷ bytes)) (b ∷ bytes))) others is

-- the rows that a longer list of bytes is read as begin with the rows that were returned
pub given_begin : (fed : List ℕ) (given : List RowView) (cursor : CursorView) → HasGiven fed given cursor → (behind : List ℕ) (rows : List RowView)
    → rows_decoding (fed ++ behind) ≡ Ok rows → BeginsWith given rows cursor.rest
given_begin fed given cursor is behind rows read =
    let bytes = cursor.rest ++ behind in
    let apart : fed ++ behind ≡ rows_encoding given ++ bytes = ap (λ (t : List ℕ). t ++ behind) (sym is.split) ∙ append_assoc (rows_encoding given) cursor.rest behind in
    let so : rows_behind given bytes ≡ Ok rows = sym (behind_database given bytes is.database) ∙ ap rows_decoding (sym apart) ∙ read in
    let found = others_of given (rows_within (length bytes) (last_of given) bytes) rows so in
    record {
      others = found.0;
      split = found.2;
      more = λ some. some_within (length bytes) (last_of given) bytes found.0 refl found.1 (omega (arith, some, length-append cursor.rest behind));
    }
