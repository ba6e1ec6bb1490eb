-- Rows that a stream returns: for `row_stream` and `rows_laws`.
use Rattle.std.proofs.Common.{◌≡◌, ◌≢◌, ℕ, zero, suc, ◌+◌, ◌-◌, ◌<◌, ◌≤◌, Bool, true, false, List, [], ◌∷◌, ◌++◌, length, take, drop, refl, sym, ap, subst, ◌∙◌, arith, append-nil, Ok, Err, Some, None, ne_eqb, eq-eqb}
use Rattle.std.specs.Prelude.{Result, Option, if◌then◌else◌}
use Rattle.std.proofs.lemmas.List.{length-append, length-take}
use Rattle.row_map.specs.Database.{RowView}
use Rattle.path_records.specs.declared.error.DbError.{DbError}
use Rattle.path_records.specs.RowRecord.{rows_decoding, has_row}
use Rattle.path_records.specs.RowCursor.{CursorView, HasGiven}
use Rattle.path_records.specs.DatabaseReader.{AreRefused}
use Rattle.path_records.proofs.Exports.{given_all, given_cut, given_begin}
use Rattle.ckpt_pair.specs.Rows.{as_counted, counted_rows}
use Rattle.ckpt_pair.specs.Reading.{FrontView, with_head, with_rows_behind, rows_behind}
use Rattle.ckpt_pair.specs.Stream.{StreamView, HasStreamed, AreNoStreamedRows, IsRefusedCursor, StreamsBeginRows, StreamsReadHalves}
use Rattle.ckpt_pair.proofs.Fronts.{by_fronts}
use Rattle.store_layout.specs.CheckpointReading.{PairRefusal}

-- ---- the bytes that were pushed

take_more : (n : ℕ) (xs ys : List ℕ) → take n (xs ++ ys) ≡ take n xs ++ take (n - length xs) ys
take_more zero xs ys = let none : 0 ≡ 0 - length xs = omega arith in ap (λ (k : ℕ). take k ys) none
take_more (suc n) [] ys = let all : suc n ≡ suc n - 0 = omega arith in ap (λ (k : ℕ). take k ys) all
take_more (suc n) (x ∷ xs) ys =
    let less : n - length xs ≡ suc n - length (x ∷ xs) = omega arith in
    ap (λ (l : List ℕ). x ∷ l) (take_more n xs ys ∙ ap (λ (k : ℕ). take n xs ++ take k ys) less)

module _ (size count : ℕ) (pushed : List ℕ) (given : List RowView) (stream : StreamView) (is : HasStreamed size count pushed given stream) where
  -- the first bytes of a longer list of bytes
  more_taken : (more : List ℕ) → take size (pushed ++ more) ≡ take size pushed ++ take stream.bytes more
  more_taken more = take_more size pushed more ∙ ap (λ (n : ℕ). take size pushed ++ take n more) (sym is.bytes)

  pub streamed_more : (piece taken : List ℕ) (cursor : CursorView) (bytes : ℕ) → (HasGiven (take size pushed) given stream.cursor → HasGiven (take size pushed ++ taken) given cursor)
      → taken ≡ take stream.bytes piece → bytes + length taken ≡ stream.bytes
      → HasStreamed size count (pushed ++ piece) given (record { cursor = cursor; bytes = bytes; rows = stream.rows })
  streamed_more piece taken cursor bytes fed first left = record {
    cursor = subst (λ (l : List ℕ). HasGiven l given cursor) (ap (λ (l : List ℕ). take size pushed ++ l) first ∙ sym (more_taken piece)) (fed is.cursor);
    bytes = omega (arith, left, is.bytes, length-append pushed piece, ap length first, length-take stream.bytes piece);
    rows = is.rows;
  }

  pub streamed_row : (row : RowView) (cursor : CursorView) (rows : ℕ) → (HasGiven (take size pushed) given stream.cursor → HasGiven (take size pushed) (given ++ row ∷ []) cursor)
      → rows + 1 ≡ stream.rows → HasStreamed size count pushed (given ++ row ∷ []) (record { cursor = cursor; bytes = stream.bytes; rows = rows })
  streamed_row row cursor rows more fewer = record {
    cursor = more is.cursor;
    bytes = is.bytes;
    rows = omega (arith, fewer, is.rows, length-append given (row ∷ []));
  }

  -- the rows that were returned are all, once no row is to come and no byte is left
  pub all_streamed : stream.rows ≡ 0 → length stream.cursor.rest ≡ 0 → as_counted count (rows_decoding (take size pushed)) ≡ Some given
  all_streamed last none =
      ap (as_counted count) (given_all (take size pushed) given stream.cursor is.cursor none)
      ∙ ap (λ (b : Bool). if b then Some given else None) (eq-eqb (length given) count (omega (arith, last, is.rows)))

  pub not_pushed : 0 < stream.bytes → length pushed < size
  not_pushed some = omega (arith, some, is.bytes)

-- ---- refusals

-- a reading whose rows, if any, have another count
none_by : (count : ℕ) (reading : Result (List RowView) DbError) → ((rows : List RowView) → reading ≡ Ok rows → length rows ≢ count) → as_counted count reading ≡ None
none_by count (Ok rows) never = ap (λ (b : Bool). if b then Some rows else None) (ne_eqb (length rows) count (never rows refl))
none_by count (Err e) never = refl

-- bytes that are left after the last row are refused
pub more_than_count : (stream : StreamView) → stream.rows ≡ 0 → 0 < length stream.cursor.rest → AreNoStreamedRows stream
more_than_count stream last some size count pushed given is after =
    none_by count (rows_decoding (take size (pushed ++ after)))
    (λ rows read same.
    let begin = given_begin (take size pushed) given stream.cursor is.cursor (take stream.bytes after) rows
    (ap rows_decoding (sym (more_taken size count pushed given stream is after)) ∙ read) in
    omega (arith, same, last, is.rows, begin.more some, ap length begin.split, length-append given begin.others))

-- the bytes that are left are refused
pub refused_cursor : (stream : StreamView) → IsRefusedCursor stream.cursor → AreNoStreamedRows stream
refused_cursor stream refused size count pushed given is after =
    ap (as_counted count) (ap rows_decoding (more_taken size count pushed given stream is after) ∙ refused.1 (take size pushed) given is.cursor (take stream.bytes after))

-- all bytes were pushed, a row is missing, and no whole row is left
pub fewer_than_count : (stream : StreamView) → 0 < stream.rows → stream.bytes ≡ 0 → has_row stream.cursor.rest ≡ false → AreNoStreamedRows stream
fewer_than_count stream some end none size count pushed given is after =
    ap (λ (l : List ℕ). as_counted count (rows_decoding l))
    (more_taken size count pushed given stream is after ∙ ap (λ (n : ℕ). take size pushed ++ take n after) end ∙ append-nil (take size pushed))
    ∙ by_rest stream.cursor.rest refl
  where
    by_rest : (rest : List ℕ) → stream.cursor.rest ≡ rest → as_counted count (rows_decoding (take size pushed)) ≡ None
    by_rest [] is_rest =
        ap (as_counted count) (given_all (take size pushed) given stream.cursor is.cursor (ap length is_rest))
        ∙ none_by count (Ok given) (λ rows read same. let e : given ≡ rows = cc in omega (arith, same, some, is.rows, ap length e))
    by_rest (b ∷ rest) is_rest =
        ap (as_counted count) (given_cut (take size pushed) given stream.cursor is.cursor (omega (arith, ap length is_rest)) none)

-- ---- laws

pub rows_begun : StreamsBeginRows
rows_begun size count pushed after given rows stream is read =
    let so = counted_rows count (rows_decoding (take size (pushed ++ after))) rows read in
    let begin = given_begin (take size pushed) given stream.cursor is.cursor (take stream.bytes after) rows
    (ap rows_decoding (sym (more_taken size count pushed given stream is after)) ∙ so.0) in
    record { others = begin.others; split = begin.split }

pub halves_read : StreamsReadHalves
halves_read area bytes front long is are =
    (by_fronts area long).checkpoint
    ∙ ap (λ (r : Result FrontView PairRefusal). with_rows_behind r (rows_behind area)) is
    ∙ ap (λ (l : List ℕ). with_head front.head (as_counted front.count (rows_decoding (take front.size l)))) (sym are)
