-- Rows read one after the other: for `row_records`.
use Rattle.std.proofs.Common.{◌≡◌, ℕ, zero, suc, ◌-◌, ◌≤◌, ◌<◌, true, false, List, [], ◌∷◌, ◌++◌, length, drop, refl, sym, ap, ◌∙◌, arith, append-nil, Ok, Err, Some, None, Bor}
use Rattle.std.specs.Prelude.{Result, Option}
use Rattle.std.specs.List.{slice_get}
use Rattle.std.specs.Option.{option_copied, option_map, option_or}
use Rattle.std.proofs.lemmas.List.{length-drop}
use Rattle.seg_core.specs.Message.{last_of}
use Rattle.path_records.specs.declared.error.DbError.{DbError}
use Rattle.path_records.specs.declared.error.DbError.TheVariants.{Order}
use Rattle.row_map.specs.declared.row.Row.{Row}
use Rattle.row_map.specs.Database.{RowView}
use Rattle.path_records.specs.RecordSteps.{◌>>=◌, demand}
use Rattle.row_map.specs.Row.{row_view, row_views}
use Rattle.path_records.specs.RowRecord.{row_size, row_decoding, is_row_above, rows_within, rows_decoding}
use Rattle.row_map.proofs.Exports.{last_seen}
use Rattle.path_records.proofs.Records.{one_more}

-- ---- the last row

pub above_seen : (rows : List Row) (found : Option (Bor Row)) (before : Bor Row) (row : RowView) → found ≡ Some before → option_copied found ≡ slice_get rows (length rows - 1)
    → is_row_above (Some (row_view before.now)) row ≡ is_row_above (last_of (row_views rows)) row
above_seen rows found before row is there =
    ap (λ (o : Option RowView). is_row_above o row) (ap (option_map row_view) (ap option_copied (sym is) ∙ there) ∙ last_seen row_view rows)

pub last_behind : (rows : List RowView) (row : RowView) → last_of (rows ++ row ∷ []) ≡ Some row
last_behind [] row = refl
last_behind (first ∷ rows) row = ap (λ (o : Option RowView). option_or o (Some first)) (last_behind rows row)

-- ---- row by row

-- two limits that read the rows after the first alike read all rows alike
alike : (n m : ℕ) (before : Option RowView) (behind : List ℕ) (r : Result RowView DbError)
    → ((row : RowView) → rows_within n (Some row) behind ≡ rows_within m (Some row) behind)
    → (r >>= λ row. demand (is_row_above before row) Order >>= λ _. rows_within n (Some row) behind >>= λ rows. Ok (row ∷ rows))
    ≡ (r >>= λ row. demand (is_row_above before row) Order >>= λ _. rows_within m (Some row) behind >>= λ rows. Ok (row ∷ rows))
alike n m before behind (Ok row) same =
    ap (λ (l : Result (List RowView) DbError). demand (is_row_above before row) Order >>= λ _. l >>= λ rows. Ok (row ∷ rows)) (same row)
alike n m before behind (Err e) same = refl

-- any limit on the number of rows gives the same result, if it is at least the number of bytes
enough : (n m : ℕ) (before : Option RowView) (bytes : List ℕ) → length bytes ≤ n → length bytes ≤ m → rows_within n before bytes ≡ rows_within m before bytes
unfolding rows_within
enough zero zero before bytes a b = refl
enough zero (suc m) before [] a b = refl
enough zero (suc m) before (x ∷ bytes) a b = absurd (omega (arith, a))
enough (suc n) zero before [] a b = refl
enough (suc n) zero before (x ∷ bytes) a b = absurd (omega (arith, b))
enough (suc n) (suc m) before [] a b = refl
enough (suc n) (suc m) before (x ∷ bytes) a b =
    let behind = drop (row_size (x ∷ bytes)) (x ∷ bytes) in
    let fewer : length behind ≤ length bytes = omega (arith, length-drop (row_size (x ∷ bytes)) (x ∷ bytes)) in
    alike n m before behind (row_decoding (x ∷ bytes)) (λ row. enough n m (Some row) behind (omega (arith, fewer, a)) (omega (arith, fewer, b)))

-- the result of reading the bytes that are left, after these rows
abbrev pub rows_behind : List RowView → List ℕ → Result (List RowView) DbError
rows_behind so_far bytes = rows_within (length bytes) (last_of so_far) bytes >>= λ others. Ok (so_far ++ others)

-- at the start no row was read
pub rows_begun : (bytes : List ℕ) → rows_decoding bytes ≡ rows_behind [] bytes
unfolding rows_decoding
rows_begun bytes = as_they_are (rows_within (length bytes) None bytes)
  where
    as_they_are : (r : Result (List RowView) DbError) → r ≡ (r >>= λ others. Ok others)
    as_they_are (Ok rows) = refl
    as_they_are (Err e) = refl

-- the next row was read, and its key is above the last one's
pub row_next : (whole : Result (List RowView) DbError) (so_far : List RowView) (row : RowView) (bytes : List ℕ) → 0 < length bytes → row_decoding bytes ≡ Ok row
    → is_row_above (last_of so_far) row ≡ true → whole ≡ rows_behind so_far bytes → whole ≡ rows_behind (so_far ++ row ∷ []) (drop (row_size bytes) bytes)
unfolding rows_within
row_next whole so_far row [] some read above so = absurd (omega (arith, some))
row_next whole so_far row (b ∷ tail) some read above so =
    let bytes = b ∷ tail in
    let behind = drop (row_size bytes) bytes in
    let fewer : length behind ≤ length tail = omega (arith, length-drop (row_size bytes) bytes) in
    so
    ∙ ap (λ r. (r >>= λ first. demand (is_row_above (last_of so_far) first) Order >>= λ _. rows_within (length tail) (Some first) behind >>= λ rows. Ok (first ∷ rows)) >>= λ others. Ok (so_far ++ others)) read
    ∙ ap (λ h. (demand h Order >>= λ _. rows_within (length tail) (Some row) behind >>= λ rows. Ok (row ∷ rows)) >>= λ others. Ok (so_far ++ others)) above
    ∙ one_more so_far row (rows_within (length tail) (Some row) behind)
    ∙ ap (λ r. r >>= λ others. Ok ((so_far ++ row ∷ []) ++ others)) (enough (length tail) (length behind) (Some row) behind fewer (omega arith))
    ∙ ap (λ (before : Option RowView). rows_within (length behind) before behind >>= λ others. Ok ((so_far ++ row ∷ []) ++ others)) (sym (last_behind so_far row))

-- the next row was refused
pub row_refused : (whole : Result (List RowView) DbError) (so_far : List RowView) (e : DbError) (bytes : List ℕ) → 0 < length bytes → row_decoding bytes ≡ Err e
    → whole ≡ rows_behind so_far bytes → whole ≡ Err e
unfolding rows_within
row_refused whole so_far e [] some read so = absurd (omega (arith, some))
row_refused whole so_far e (b ∷ tail) some read so =
    let behind = drop (row_size (b ∷ tail)) (b ∷ tail) in
    so ∙ ap (λ r. (r >>= λ first. demand (is_row_above (last_of so_far) first) Order >>= λ _. rows_within (length tail) (Some first) behind >>= λ rows. Ok (first ∷ rows)) >>= λ others. Ok (so_far ++ others)) read

-- the next row was read, and its key is not above the last one's
pub row_falls : (whole : Result (List RowView) DbError) (so_far : List RowView) (row : RowView) (bytes : List ℕ) → 0 < length bytes → row_decoding bytes ≡ Ok row
    → is_row_above (last_of so_far) row ≡ false → whole ≡ rows_behind so_far bytes → whole ≡ Err Order
unfolding rows_within
row_falls whole so_far row [] some read above so = absurd (omega (arith, some))
row_falls whole so_far row (b ∷ tail) some read above so =
    let behind = drop (row_size (b ∷ tail)) (b ∷ tail) in
    so
    ∙ ap (λ r. (r >>= λ first. demand (is_row_above (last_of so_far) first) Order >>= λ _. rows_within (length tail) (Some first) behind >>= λ rows. Ok (first ∷ rows)) >>= λ others. Ok (so_far ++ others)) read
    ∙ ap (λ h. (demand h Order >>= λ _. rows_within (length tail) (Some row) behind >>= λ rows. Ok (row ∷ rows)) >>= λ others. Ok (so_far ++ others)) above

-- no bytes are left
pub rows_done : (whole : Result (List RowView) DbError) (so_far : List RowView) (bytes : List ℕ) → length bytes ≡ 0 → whole ≡ rows_behind so_far bytes → whole ≡ Ok so_far
unfolding rows_within
rows_done whole so_far [] empty so = so ∙ ap (λ (l : List RowView). Ok l) (append-nil so_far)
rows_done whole so_far (b ∷ bytes) empty so = absurd cc
