-- Rows that are read from pieces: for `database_reader`.
use Rattle.std.proofs.Common.{◌≡◌, ℕ, ◌+◌, ◌-◌, ◌<◌, ◌≤◌, Bool, true, false, List, [], ◌∷◌, ◌++◌, length, take, drop, refl, sym, ap, subst, ◌∙◌, arith, append_assoc, append-nil, leb-true, le-leb, Ok, Err, Some, None}
use Rattle.std.specs.Prelude.{Result, Option, IsOk, slice_index, if◌then◌else◌, nat_le}
use Rattle.std.specs.Option.{option_or}
use Rattle.std.specs.Int.{w32, from_be_bytes}
use Rattle.std.proofs.lemmas.List.{length-append, length-drop, take-append-le, drop-append-le, drop-drop}
use Rattle.std.proofs.lemmas.Grind.{flat_map-append}
use Rattle.byte_lists.specs.Content.{AreBytes, part}
use Rattle.byte_lists.specs.Numbers.{four_at}
use Rattle.seg_core.specs.Encoding.{IsSegment}
use Rattle.seg_core.specs.Message.{last_of}
use Rattle.seg_core.specs.Registration.{type_of}
use Rattle.path_records.specs.declared.error.DbError.{DbError}
use Rattle.path_records.specs.declared.error.DbError.TheVariants.{BadRecord, Order}
use Rattle.row_map.specs.Database.{RowView, IsDatabase}
use Rattle.path_records.specs.RecordSteps.{◌>>=◌, demand}
use Rattle.path_records.specs.RowRecord.{row_record, rows_encoding, row_size, has_row, record_of, spelled_segment, row_decoding, is_row_above, rows_decoding}
use Rattle.path_records.specs.DatabaseReader.{AreRefused}
use Rattle.path_records.proofs.Spelled.{has_room, row_spelled}
use Rattle.path_records.proofs.Records.{whole_more}
use Rattle.path_records.proofs.RowsBack.{Rises, rises, rising}
use Rattle.path_records.proofs.RowsRead.{row_refused, row_falls, rows_done}
use Rattle.path_records.proofs.ReadBack.{encoding_len}
use Rattle.path_records.proofs.Refused.{behind_database}

-- ---- one more row

either : (last : Option RowView) (row : RowView) (before : Option RowView) → option_or (option_or last (Some row)) before ≡ option_or last (Some row)
either None row before = refl
either (Some x) row before = refl

rises_more : (before : Option RowView) (rows : List RowView) (row : RowView) → Rises before rows → is_row_above (option_or (last_of rows) before) row ≡ true
    → Rises before (rows ++ row ∷ [])
rises_more before [] row all above = (above, tt)
rises_more before (first ∷ rows) row all above =
    (all.0, rises_more (Some first) rows row all.1 (ap (λ (o : Option RowView). is_row_above o row) (sym (either (last_of rows) first before)) ∙ above))

or_none : (last : Option RowView) → option_or last None ≡ last
or_none None = refl
or_none (Some x) = refl

pub database_more : (rows : List RowView) (row : RowView) → IsDatabase rows → IsSegment row.1 → is_row_above (last_of rows) row ≡ true → IsDatabase (rows ++ row ∷ [])
database_more rows row is segment above = record {
  rising = rising (rows ++ row ∷ []) (rises_more None rows row (rises rows is.rising) (ap (λ (o : Option RowView). is_row_above o row) (or_none (last_of rows)) ∙ above));
  whole = whole_more rows row is.whole segment;
}

-- the row that is read next comes after the rows before
pub encoded_more : (rows : List RowView) (row : RowView) (left : List ℕ) → AreBytes left → row_decoding left ≡ Ok row
    → rows_encoding (rows ++ row ∷ []) ++ drop (row_size left) left ≡ rows_encoding rows ++ left
encoded_more rows row left each read =
    let behind = drop (row_size left) left in
    ap (λ (t : List ℕ). t ++ behind) (flat_map-append row_record rows (row ∷ []) ∙ ap (λ (t : List ℕ). rows_encoding rows ++ t) (append-nil (row_record row)))
    ∙ append_assoc (rows_encoding rows) (row_record row) behind
    ∙ ap (λ (t : List ℕ). rows_encoding rows ++ t) (row_spelled left row each read)

-- ---- a whole row is read in the same way whatever bytes come after it

-- the row by whether it is whole, by its first byte and by its message
unfoldable pub row_by : Bool → ℕ → List ℕ → Result RowView DbError
row_by there first message =
    demand there BadRecord >>= λ _. record_of (type_of first) >>= λ kind. spelled_segment message >>= λ segment. Ok (kind, segment)

pub row_is : (bytes : List ℕ) → row_decoding bytes ≡ row_by (has_row bytes) (slice_index bytes 0) (part 5 (four_at 1 bytes) bytes)
unfolding row_decoding row_by
row_is bytes = refl

pub part_longer : (at n : ℕ) (bytes behind : List ℕ) → at + n ≤ length bytes → part at n (bytes ++ behind) ≡ part at n bytes
part_longer at n bytes behind within =
    ap (take n) (drop-append-le at bytes behind (omega (arith, within)))
    ∙ take-append-le n (drop at bytes) behind (omega (arith, within, length-drop at bytes))

five_by : (b : Bool) (n : ℕ) (bytes : List ℕ) → nat_le 5 n ≡ b → (if b then nat_le (row_size bytes) (length bytes) else false) ≡ true → 5 ≤ n
five_by true n bytes is there = leb-true 5 n is
five_by false n bytes is there = absurd cc

five_there : (bytes : List ℕ) → has_row bytes ≡ true → 5 ≤ length bytes
five_there bytes there = five_by (nat_le 5 (length bytes)) (length bytes) bytes refl there

first_longer : (bytes behind : List ℕ) → 5 ≤ length bytes → slice_index (bytes ++ behind) 0 ≡ slice_index bytes 0
first_longer [] behind some = absurd (omega (arith, some))
first_longer (b ∷ bytes) behind some = refl

module _ (bytes behind : List ℕ) (there : has_row bytes ≡ true) where
  four_longer : four_at 1 (bytes ++ behind) ≡ four_at 1 bytes
  four_longer = ap (from_be_bytes w32) (part_longer 1 4 bytes behind (five_there bytes there))

  has_longer : has_row (bytes ++ behind) ≡ true
  has_longer =
      ap (λ (b : Bool). if b then nat_le (row_size (bytes ++ behind)) (length (bytes ++ behind)) else false)
      (le-leb 5 (length (bytes ++ behind)) (omega (arith, five_there bytes there, length-append bytes behind)))
      ∙ le-leb (row_size (bytes ++ behind)) (length (bytes ++ behind)) (omega (arith, four_longer, has_room bytes there, length-append bytes behind))

  row_longer : row_decoding (bytes ++ behind) ≡ row_decoding bytes
  row_longer =
      row_is (bytes ++ behind)
      ∙ ap (λ (b : Bool). row_by b (slice_index (bytes ++ behind) 0) (part 5 (four_at 1 (bytes ++ behind)) (bytes ++ behind))) (has_longer ∙ sym there)
      ∙ ap (λ (n : ℕ). row_by (has_row bytes) n (part 5 (four_at 1 (bytes ++ behind)) (bytes ++ behind))) (first_longer bytes behind (five_there bytes there))
      ∙ ap (λ (n : ℕ). row_by (has_row bytes) (slice_index bytes 0) (part 5 n (bytes ++ behind))) four_longer
      ∙ ap (λ (l : List ℕ). row_by (has_row bytes) (slice_index bytes 0) l) (part_longer 5 (four_at 1 bytes) bytes behind (has_room bytes there))
      ∙ sym (row_is bytes)

-- ---- bytes that are refused

module _ (rows : List RowView) (left fed : List ℕ) (is : IsDatabase rows) (same : rows_encoding rows ++ left ≡ fed) (there : has_row left ≡ true) where
  some : (behind : List ℕ) → 0 < length (left ++ behind)
  some behind = omega (arith, five_there left there, length-append left behind)

  apart : (behind : List ℕ) → fed ++ behind ≡ rows_encoding rows ++ (left ++ behind)
  apart behind = ap (λ (t : List ℕ). t ++ behind) (sym same) ∙ append_assoc (rows_encoding rows) left behind

  pub refused_on : (e : DbError) → row_decoding left ≡ Err e → AreRefused fed e
  refused_on e read behind =
      ap rows_decoding (apart behind)
      ∙ row_refused (rows_decoding (rows_encoding rows ++ (left ++ behind))) rows e (left ++ behind) (some behind) (row_longer left behind there ∙ read)
      (behind_database rows (left ++ behind) is)

  pub falls_on : (row : RowView) → row_decoding left ≡ Ok row → is_row_above (last_of rows) row ≡ false → AreRefused fed Order
  falls_on row read falls behind =
      ap rows_decoding (apart behind)
      ∙ row_falls (rows_decoding (rows_encoding rows ++ (left ++ behind))) rows row (left ++ behind) (some behind) (row_longer left behind there ∙ read) falls
      (behind_database rows (left ++ behind) is)

-- bytes that begin with refused ones are refused for the same reason
pub refused_longer : (fed more : List ℕ) (e : DbError) → AreRefused fed e → AreRefused (fed ++ more) e
refused_longer fed more e refused behind = ap rows_decoding (append_assoc fed more behind) ∙ refused (more ++ behind)

-- ---- a piece that is fed in three parts

-- the bytes that were fed before, and the piece
pub parts_fed : (fed piece head behind segment rest one two : List ℕ) → piece ≡ head ++ behind → behind ≡ segment ++ rest → one ≡ fed ++ head → two ≡ one ++ segment
    → two ++ rest ≡ fed ++ piece
parts_fed fed piece head behind segment rest one two whole parts first second =
    ap (λ (t : List ℕ). t ++ rest) second ∙ append_assoc one segment rest ∙ ap (λ (t : List ℕ). one ++ t) (sym parts)
    ∙ ap (λ (t : List ℕ). t ++ behind) first ∙ append_assoc fed head behind ∙ ap (λ (t : List ℕ). fed ++ t) (sym whole)

-- ---- the end

pub all_read : (rows : List RowView) (rest : List ℕ) → IsDatabase rows → length rest ≡ 0 → rows_decoding (rows_encoding rows ++ rest) ≡ Ok rows
all_read rows rest is none = rows_done (rows_decoding (rows_encoding rows ++ rest)) rows rest none (behind_database rows rest is)

pub cut_off : (rows : List RowView) (rest : List ℕ) → IsDatabase rows → 0 < length rest → has_row rest ≡ false → rows_decoding (rows_encoding rows ++ rest) ≡ Err BadRecord
unfolding row_by
cut_off rows rest is long none =
    row_refused (rows_decoding (rows_encoding rows ++ rest)) rows BadRecord rest long
    (row_is rest ∙ ap (λ (b : Bool). row_by b (slice_index rest 0) (part 5 (four_at 1 rest) rest)) none)
    (behind_database rows rest is)

-- ---- how many bytes were read

pub left_more : (bytes left : List ℕ) (n : ℕ) → left ≡ drop (length bytes - length left) bytes → n ≤ length left → length left ≤ length bytes
    → drop n left ≡ drop (length bytes - length (drop n left)) bytes
left_more bytes left n is inside within =
    ap (drop n) is ∙ drop-drop n (length bytes - length left) bytes
    ∙ ap (λ (k : ℕ). drop k bytes) (omega (arith, inside, within, length-drop n left))

-- where rows were read, there were bytes
pub wanted_at : (rows : List RowView) (rest : List ℕ) → rows_decoding (rows_encoding rows ++ rest) ≡ Ok rows → 0 < length rows
    → IsOk (rows_decoding (rows_encoding rows ++ rest)) × (0 < length (rows_encoding rows ++ rest))
wanted_at rows rest read some =
    (subst IsOk (sym read) refl, omega (arith, some, encoding_len rows, length-append (rows_encoding rows) rest))
