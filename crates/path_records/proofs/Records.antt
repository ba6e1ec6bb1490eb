-- Readings of records, step by step: for `row_records` and `command_records`.
use Rattle.std.proofs.Common.{◌≡◌, ℕ, zero, suc, ◌<◌, List, [], ◌∷◌, ◌++◌, length, drop, subst, refl, sym, ap, ◌∙◌, append_assoc, append-nil, arith, Ok, Err}
use Rattle.std.specs.Prelude.{Result, IsOk}
use Rattle.seg_core.specs.declared.error.SegError.{SegError}
use Rattle.seg_core.specs.SegmentView.{SegmentView}
use Rattle.seg_core.specs.Encoding.{IsSegment}
use Rattle.seg_core.specs.Steps.{◌>>=◌ as ◌>>>◌}
use Rattle.seg_core.specs.Segment.{segment_decoding, segment_outline}
use Rattle.path_records.specs.declared.error.DbError.{DbError}
use Rattle.path_records.specs.declared.error.DbError.TheVariants.{BadRecord}
use Rattle.row_map.specs.Database.{RowView, AreWhole}
use Rattle.path_records.specs.RecordSteps.{◌>>=◌}
use Rattle.path_records.specs.RowRecord.{row_decoding, row_size}
use Rattle.path_records.specs.CommandRecord.{items_decoding}

bound_ok : {A B : Type 0} (r : Result A SegError) (rest : A → Result B SegError) (b : B) → (r >>> rest) ≡ Ok b → IsOk r
bound_ok (Ok x) rest b e = refl
bound_ok (Err x) rest b e = absurd cc

-- a segment that is read has an outline
pub outlined : (message : List ℕ) (s : SegmentView) → segment_decoding message ≡ Ok s → IsOk (segment_outline message)
unfolding segment_decoding
outlined message s read = bound_ok (segment_outline message) _ s read

-- ---- this number of rows

-- the result of reading the bytes that are left, after these rows
abbrev pub items_behind : List RowView → ℕ → List ℕ → Result (List RowView) DbError
items_behind so_far count bytes = items_decoding count bytes >>= λ others. Ok (so_far ++ others)

-- one more row in front of the others, or after the rows read before
pub one_more : (so_far : List RowView) (row : RowView) (r : Result (List RowView) DbError)
    → ((r >>= λ rows. Ok (row ∷ rows)) >>= λ others. Ok (so_far ++ others)) ≡ (r >>= λ others. Ok ((so_far ++ row ∷ []) ++ others))
one_more so_far row (Ok others) = ap (λ l. Ok l) (sym (append_assoc so_far (row ∷ []) others))
one_more so_far row (Err e) = refl

next_of : (so_far : List RowView) (row : RowView) (r : Result RowView DbError) (m : ℕ) (rest : List ℕ) → r ≡ Ok row
    → ((r >>= λ first. items_decoding m rest >>= λ rows. Ok (first ∷ rows)) >>= λ others. Ok (so_far ++ others)) ≡ items_behind (so_far ++ row ∷ []) m rest
next_of so_far row (Ok first) m rest is = let same : first ≡ row = cc in rw same (one_more so_far row (items_decoding m rest))
next_of so_far row (Err e) m rest is = absurd cc

-- the next row was read
pub item_next : (whole : Result (List RowView) DbError) (so_far : List RowView) (row : RowView) (n m : ℕ) (rest : List ℕ) → n ≡ suc m → row_decoding rest ≡ Ok row
    → whole ≡ items_behind so_far n rest → whole ≡ items_behind (so_far ++ row ∷ []) m (drop (row_size rest) rest)
unfolding items_decoding
item_next whole so_far row zero m rest is read so = absurd cc
item_next whole so_far row (suc n) m rest is read so =
    let same : n ≡ m = omega (arith, is) in
    so ∙ next_of so_far row (row_decoding rest) n (drop (row_size rest) rest) read ∙ ap (λ k. items_behind (so_far ++ row ∷ []) k (drop (row_size rest) rest)) same

refused_of : (so_far : List RowView) (r : Result RowView DbError) (e : DbError) (m : ℕ) (rest : List ℕ) → r ≡ Err e
    → ((r >>= λ first. items_decoding m rest >>= λ rows. Ok (first ∷ rows)) >>= λ others. Ok (so_far ++ others)) ≡ Err e
refused_of so_far (Ok first) e m rest is = absurd cc
refused_of so_far (Err x) e m rest is = let same : x ≡ e = cc in ap (λ y. Err y) same

-- the next row was refused
pub item_refused : (whole : Result (List RowView) DbError) (so_far : List RowView) (e : DbError) (n : ℕ) (rest : List ℕ) → 0 < n → row_decoding rest ≡ Err e
    → whole ≡ items_behind so_far n rest → whole ≡ Err e
unfolding items_decoding
item_refused whole so_far e zero rest some read so = absurd (omega (arith, some))
item_refused whole so_far e (suc n) rest some read so = so ∙ refused_of so_far (row_decoding rest) e n (drop (row_size rest) rest) read

-- all rows were read, and no bytes are left
pub items_done : (whole : Result (List RowView) DbError) (so_far : List RowView) (n : ℕ) (rest : List ℕ) → n ≡ 0 → length rest ≡ 0
    → whole ≡ items_behind so_far n rest → whole ≡ Ok so_far
unfolding items_decoding
items_done whole so_far zero [] none empty so = so ∙ ap (λ l. Ok l) (append-nil so_far)
items_done whole so_far (suc n) rest none empty so = absurd cc
items_done whole so_far zero (b ∷ rest) none empty so = absurd cc

-- bytes are left over
pub items_left : (whole : Result (List RowView) DbError) (so_far : List RowView) (n : ℕ) (rest : List ℕ) → n ≡ 0 → 0 < length rest
    → whole ≡ items_behind so_far n rest → whole ≡ Err BadRecord
unfolding items_decoding
items_left whole so_far zero [] none some so = absurd (omega (arith, some))
items_left whole so_far zero (b ∷ rest) none some so = so
items_left whole so_far (suc n) rest none some so = absurd cc

-- one more whole segment
pub whole_more : (rows : List RowView) (row : RowView) → AreWhole rows → IsSegment row.1 → AreWhole (rows ++ row ∷ [])
whole_more [] row whole is = (is, tt)
whole_more (first ∷ rows) row whole is = (whole.0, whole_more rows row whole.1 is)

-- a property of the bytes of the first row also holds later
pub first_or : (P : List ℕ → Type 0) (n : ℕ) (rest bytes : List ℕ) → (n ≡ 0 → rest ≡ bytes) → (0 < n → P bytes) → P rest → P bytes
first_or P zero rest bytes first later here = subst P (first refl) here
first_or P (suc n) rest bytes first later here = later (omega arith)
