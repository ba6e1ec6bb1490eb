-- Rows that a cursor returns one after the other: for `row_cursor`.
use Rattle.std.proofs.Common.{inl, inr, ◌≡◌, ℕ, ◌<◌, Bool, true, false, List, [], ◌∷◌, ◌++◌, length, drop, refl, sym, ap, subst, ◌∙◌, append_assoc, Ok, Err, Some, None}
use Rattle.std.specs.Prelude.{Option}
use Rattle.std.specs.Option.{option_map}
use Rattle.byte_lists.specs.Content.{AreBytes}
use Rattle.seg_core.specs.Encoding.{IsSegment}
use Rattle.seg_core.specs.Message.{last_of}
use Rattle.path_records.specs.declared.error.DbError.{DbError}
use Rattle.path_records.specs.declared.error.DbError.TheVariants.{Order}
use Rattle.row_map.specs.Database.{RowView, key_of}
use Rattle.path_records.specs.RowRecord.{rows_encoding, row_size, has_row, row_decoding, is_row_above}
use Rattle.path_records.specs.DatabaseReader.{AreRefused}
use Rattle.path_records.specs.RowCursor.{CursorView, HasGiven, is_above_bytes, IsNoNextRow}
use Rattle.path_records.specs.declared.key.Key.{Key}
use Rattle.path_records.specs.Key.{key_bytes}
use Rattle.path_records.proofs.RowsRead.{last_behind}
use Rattle.path_records.proofs.LongRows.{long_refused}
use Rattle.path_records.proofs.RowPieces.{database_more, encoded_more, refused_on, falls_on}

pub fed_more : (fed piece : List ℕ) (given : List RowView) (cursor : CursorView) (rest : List ℕ) → HasGiven fed given cursor → rest ≡ cursor.rest ++ piece
    → HasGiven (fed ++ piece) given (record { last = cursor.last; rest = rest })
fed_more fed piece given cursor rest is more = record {
  database = is.database;
  last = is.last;
  split =
      ap (λ (l : List ℕ). rows_encoding given ++ l) more ∙ sym (append_assoc (rows_encoding given) cursor.rest piece)
      ∙ ap (λ (l : List ℕ). l ++ piece) is.split;
}

above_so : (last : Option RowView) (row : RowView) → is_above_bytes (option_map key_of last) row ≡ is_row_above last row
above_so None row = refl
above_so (Some before) row = refl

module _ (fed : List ℕ) (given : List RowView) (cursor : CursorView) (is : HasGiven fed given cursor) (left : List ℕ) (left_is : left ≡ cursor.rest) (row : RowView) where
  above_is : (b : Bool) → is_above_bytes cursor.last row ≡ b → is_row_above (last_of given) row ≡ b
  above_is b e = sym (above_so (last_of given) row) ∙ ap (λ (k : Option (List ℕ)). is_above_bytes k row) (sym is.last) ∙ e

  split_so : rows_encoding given ++ left ≡ fed
  split_so = ap (λ (l : List ℕ). rows_encoding given ++ l) left_is ∙ is.split

  pub given_more : (k rest : List ℕ) → AreBytes left → row_decoding left ≡ Ok row → IsSegment row.1 → is_above_bytes cursor.last row ≡ true → k ≡ key_of row
      → rest ≡ drop (row_size left) left → HasGiven fed (given ++ row ∷ []) (record { last = Some k; rest = rest })
  given_more k rest each read segment above its behind = record {
    database = database_more given row is.database segment (above_is true above);
    last = ap (λ (l : List ℕ). Some l) its ∙ ap (option_map key_of) (sym (last_behind given row));
    split = ap (λ (l : List ℕ). rows_encoding (given ++ row ∷ []) ++ l) behind ∙ encoded_more given row left each read ∙ split_so;
  }

  pub lower_refused : has_row left ≡ true → row_decoding left ≡ Ok row → is_above_bytes cursor.last row ≡ false → AreRefused fed Order
  lower_refused there read falls = falls_on given left fed is.database split_so there row read (above_is false falls)

pub bad_refused : (fed : List ℕ) (given : List RowView) (cursor : CursorView) → HasGiven fed given cursor → (left : List ℕ) → left ≡ cursor.rest → (e : DbError) → has_row left ≡ true
    → row_decoding left ≡ Err e → AreRefused fed e
bad_refused fed given cursor is left left_is e there read =
    refused_on given left fed is.database (ap (λ (l : List ℕ). rows_encoding given ++ l) left_is ∙ is.split) there e read

-- bytes that are not the next row are refused whatever bytes come after
pub no_next : (fed : List ℕ) (given : List RowView) (cursor : CursorView) → HasGiven fed given cursor → (left : List ℕ) → left ≡ cursor.rest → (last : Option Key) → cursor.last ≡ option_map key_bytes last
    → (e : DbError) → IsNoNextRow left last e → AreRefused fed e
no_next fed given cursor is left left_is last last_is e (inl (bad, long)) =
    subst (λ (x : DbError). AreRefused fed x) (sym bad)
    (long_refused given left fed is.database (ap (λ (l : List ℕ). rows_encoding given ++ l) left_is ∙ is.split) long)
no_next fed given cursor is left left_is last last_is e (inr (there, inl read)) = bad_refused fed given cursor is left left_is e there read
no_next fed given cursor is left left_is last last_is e (inr (there, inr (lower, order))) =
    subst (λ (x : DbError). AreRefused fed x) (sym order)
    (lower_refused fed given cursor is left left_is lower.row there lower.read (ap (λ (k : Option (List ℕ)). is_above_bytes k lower.row) last_is ∙ lower.lower))
