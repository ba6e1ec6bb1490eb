-- Rows that are written and read again, with rising keys: for `record_laws` and `read_rows`.
use Rattle.std.proofs.Common.{◌≡◌, ℕ, zero, suc, ◌≤◌, Bool, true, false, List, [], ◌∷◌, ◌++◌, length, drop, refl, ap, subst, ◌∙◌, arith, Ok, Some, None}
use Rattle.std.specs.Prelude.{Result, Option}
use Rattle.std.specs.Ordering.{is_lt}
use Rattle.std.specs.declared.cmp.Ordering.{Ordering}
use Rattle.std.specs.declared.cmp.Ordering.TheVariants.{Less, Equal, Greater}
use Rattle.std.proofs.lemmas.List.{length-drop, length-append}
use Rattle.std.proofs.lemmas.List.Concat.{flat_map-cons}
use Rattle.std.proofs.lemmas.List.Sums.{sum_by-cons}
use Rattle.byte_lists.specs.Content.{AreBytes, part}
use Rattle.byte_lists.specs.Numbers.{four_at}
use Rattle.byte_lists.proofs.Contents.{length-part}
use Rattle.path_records.specs.declared.error.DbError.{DbError}
use Rattle.path_records.specs.declared.error.DbError.TheVariants.{Order}
use Rattle.row_map.specs.Database.{RowView, key_order, IsRising, AreWhole, row_len, rows_len}
use Rattle.path_records.specs.RecordSteps.{◌>>=◌, demand}
use Rattle.path_records.specs.RowRecord.{row_record, rows_encoding, row_size, row_decoding, is_row_above, rows_within, rows_decoding}
use Rattle.path_records.specs.RecordLaws.{WrittenRowsAreRead, WrittenRowsAreCounted, ReadRowsAreSpelled}
use Rattle.row_map.proofs.Exports.{AllAbove, above_less}
use Rattle.path_records.proofs.Spelled.{went, segment_back, has_room, row_steps, row_spelled, row_whole, bytes_drop}
use Rattle.path_records.proofs.ReadBack.{row_back, record_len}

-- ---- rising keys, one after the other

-- each key is strictly above the one before
abbrev pub Rises : Option RowView → List RowView → Type 0
Rises before [] = Unit {0}
Rises before (row ∷ rows) = (is_row_above before row ≡ true) × Rises (Some row) rows

rises_behind : (row : RowView) (rows : List RowView) → AllAbove row rows → IsRising rows → Rises (Some row) rows
rises_behind row [] all rising = tt
rises_behind row (next ∷ rows) all rising = (ap is_lt all.0, rises_behind next rows rising.0 rising.1)

pub rises : (rows : List RowView) → IsRising rows → Rises None rows
rises [] rising = tt
rises (row ∷ rows) rising = (refl, rises_behind row rows rising.0 rising.1)

less_from : (o : Ordering) → is_lt o ≡ true → o ≡ Less
less_from Less e = refl
less_from Equal e = absurd cc
less_from Greater e = absurd cc

rising_behind : (row : RowView) (rows : List RowView) → Rises (Some row) rows → AllAbove row rows × IsRising rows
rising_behind row [] all = (tt, tt)
rising_behind row (next ∷ rows) all =
    let later = rising_behind next rows all.1 in
    let below = less_from (key_order row next) all.0 in
    ((below, above_less row next rows below later.0), later)

pub rising : (rows : List RowView) → Rises None rows → IsRising rows
rising [] all = tt
rising (row ∷ rows) all = rising_behind row rows all.1

-- ---- read

in_order : {B : Type 0} (holds : Bool) (rest : Result B DbError) (b : B) → (demand holds Order >>= λ _. rest) ≡ Ok b → (holds ≡ true) × (rest ≡ Ok b)
in_order true rest b e = (refl, e)
in_order false rest b e = absurd cc

-- a row that is read has the length that `row_size` gives
pub row_takes : (bytes : List ℕ) (row : RowView) → row_decoding bytes ≡ Ok row → (row_size bytes ≡ row_len row) × (row_size bytes ≤ length bytes)
row_takes bytes row read =
    let so = row_steps bytes row read in
    let inside = has_room bytes so.there in
    let len = ap length (segment_back (part 5 (four_at 1 bytes) bytes) row.1 so.segment) in
    (omega (arith, len, length-part 5 (four_at 1 bytes) bytes inside), inside)

within_read : (n : ℕ) (before : Option RowView) (bytes : List ℕ) (rows : List RowView) → length bytes ≤ n
    → rows_within n before bytes ≡ Ok rows → Rises before rows × (rows_len rows ≡ length bytes)
unfolding rows_within
within_read zero before [] [] le read = (tt, refl)
within_read zero before [] (row ∷ rows) le read = absurd cc
within_read zero before (b ∷ bytes) rows le read = absurd (omega (arith, le))
within_read (suc n) before [] [] le read = (tt, refl)
within_read (suc n) before [] (row ∷ rows) le read = absurd cc
within_read (suc n) before (b ∷ tail) rows le read =
    let bytes = b ∷ tail in
    let behind = drop (row_size bytes) bytes in
    let a = went (row_decoding bytes) (λ row. demand (is_row_above before row) Order >>= λ _. rows_within n (Some row) behind >>= λ rows. Ok (row ∷ rows)) rows read in
    let o = in_order (is_row_above before a.value) (rows_within n (Some a.value) behind >>= λ rows. Ok (a.value ∷ rows)) rows a.others in
    let r = went (rows_within n (Some a.value) behind) (λ rows. Ok (a.value ∷ rows)) rows o.1 in
    let same : (a.value ∷ r.value) ≡ rows = cc (r.others) in
    let takes = row_takes bytes a.value a.first in
    let fewer = length-drop (row_size bytes) bytes in
    let later = within_read n (Some a.value) behind r.value (omega (arith, le, fewer)) r.first in
    let sum = sum_by-cons row_len a.value r.value in
    let counted : rows_len (a.value ∷ r.value) ≡ length bytes = omega (arith, sum, takes.0, takes.1, fewer, later.1) in
    subst (λ (l : List RowView). Rises before l × (rows_len l ≡ length bytes)) same ((o.0, later.0), counted)

-- rows that are read have rising keys, and their records are all of the bytes
pub rows_read : (bytes : List ℕ) (rows : List RowView) → rows_decoding bytes ≡ Ok rows → IsRising rows × (rows_len rows ≡ length bytes)
unfolding rows_decoding
rows_read bytes rows read =
    let so = within_read (length bytes) None bytes rows (omega arith) read in
    (rising rows so.0, so.1)

-- ---- written, then read

within_back : (n : ℕ) (before : Option RowView) (rows : List RowView) → length (rows_encoding rows) ≤ n → Rises before rows → AreWhole rows
    → rows_within n before (rows_encoding rows) ≡ Ok rows
unfolding rows_within row_record
within_back zero before [] le all whole = refl
within_back (suc n) before [] le all whole = refl
within_back zero before (row ∷ rows) le all whole =
    absurd (omega (arith, ap length (flat_map-cons row_record row rows), length-append (row_record row) (rows_encoding rows), record_len row))
within_back (suc n) before (row ∷ rows) le all whole =
    let bytes = row_record row ++ rows_encoding rows in
    let one = row_back row (rows_encoding rows) whole.0 in
    let short : length (rows_encoding rows) ≤ n =
    omega (arith, ap length (flat_map-cons row_record row rows), length-append (row_record row) (rows_encoding rows), record_len row) in
    ap (λ (t : List ℕ). rows_within (suc n) before t) (flat_map-cons row_record row rows)
    ∙ ap (λ r. r >>= λ first. demand (is_row_above before first) Order >>= λ _. rows_within n (Some first) (drop (row_size bytes) bytes) >>= λ others. Ok (first ∷ others)) one.0
    ∙ ap (λ h. demand h Order >>= λ _. rows_within n (Some row) (drop (row_size bytes) bytes) >>= λ others. Ok (row ∷ others)) all.0
    ∙ ap (λ (t : List ℕ). rows_within n (Some row) t >>= λ others. Ok (row ∷ others)) one.1
    ∙ ap (λ r. r >>= λ others. Ok (row ∷ others)) (within_back n (Some row) rows short all.1 whole.1)

-- the records of rows have the length that is counted for them
pub rows_counted : WrittenRowsAreCounted
rows_counted [] = refl
rows_counted (row ∷ rows) =
    let split = ap length (flat_map-cons row_record row rows) ∙ length-append (row_record row) (rows_encoding rows) in
    omega (arith, split, record_len row, rows_counted rows, sum_by-cons row_len row rows)

pub rows_back : WrittenRowsAreRead
unfolding rows_decoding
rows_back rows is = within_back (length (rows_encoding rows)) None rows (omega arith) (rises rows is.rising) is.whole

-- ---- read, then written

within_spelled : (n : ℕ) (before : Option RowView) (bytes : List ℕ) (rows : List RowView) → AreBytes bytes → length bytes ≤ n
    → rows_within n before bytes ≡ Ok rows → (rows_encoding rows ≡ bytes) × AreWhole rows
unfolding rows_within
within_spelled zero before [] [] each le read = (refl, tt)
within_spelled zero before [] (row ∷ rows) each le read = absurd cc
within_spelled zero before (b ∷ bytes) rows each le read = absurd (omega (arith, le))
within_spelled (suc n) before [] [] each le read = (refl, tt)
within_spelled (suc n) before [] (row ∷ rows) each le read = absurd cc
within_spelled (suc n) before (b ∷ tail) rows each le read =
    let bytes = b ∷ tail in
    let behind = drop (row_size bytes) bytes in
    let a = went (row_decoding bytes) (λ row. demand (is_row_above before row) Order >>= λ _. rows_within n (Some row) behind >>= λ rows. Ok (row ∷ rows)) rows read in
    let o = in_order (is_row_above before a.value) (rows_within n (Some a.value) behind >>= λ rows. Ok (a.value ∷ rows)) rows a.others in
    let r = went (rows_within n (Some a.value) behind) (λ rows. Ok (a.value ∷ rows)) rows o.1 in
    let same : (a.value ∷ r.value) ≡ rows = cc (r.others) in
    let short : length behind ≤ n = omega (arith, le, length-drop (row_size bytes) bytes) in
    let later = within_spelled n (Some a.value) behind r.value (bytes_drop (row_size bytes) bytes each) short r.first in
    let encoded : rows_encoding (a.value ∷ r.value) ≡ bytes =
    flat_map-cons row_record a.value r.value ∙ ap (λ (t : List ℕ). row_record a.value ++ t) later.0 ∙ row_spelled bytes a.value each a.first in
    subst (λ (l : List RowView). (rows_encoding l ≡ bytes) × AreWhole l) same (encoded, (row_whole bytes a.value each a.first, later.1))

pub rows_spelled : ReadRowsAreSpelled
unfolding rows_decoding
rows_spelled bytes rows each read =
    let so = within_spelled (length bytes) None bytes rows each (omega arith) read in
    (so.0, record { rising = (rows_read bytes rows read).0; whole = so.1 })
