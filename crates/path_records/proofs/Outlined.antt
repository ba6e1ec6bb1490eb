-- Bytes that are read as at least one row begin with a row whose segment has an outline: for
-- `read_rows`.
use Rattle.std.proofs.Common.{◌≡◌, ◌<◌, length, arith, ℕ, Bool, true, false, List, [], ◌∷◌, Result, Ok, Err, IsOk, refl, sym, ap, subst}
use Rattle.seg_core.specs.declared.error.SegError.{SegError}
use Rattle.path_records.specs.declared.error.DbError.{DbError}
use Rattle.row_map.specs.Database.{RowView}
use Rattle.path_records.specs.RecordSteps.{◌>>=◌, demand}
use Rattle.path_records.specs.RowRecord.{record_of, row_decoding, spelled_segment, HasOutline, rows_within, rows_decoding}
use Rattle.path_records.proofs.Records.{outlined}

step : {A B : Type 0} (r : Result A DbError) (f : A → Result B DbError) (x : B) → (r >>= f) ≡ Ok x → (a : A) × (r ≡ Ok a) × (f a ≡ Ok x)
step (Ok a) f x e = (a, refl, e)
step (Err d) f x e = absurd (cc)

checked : (b : Bool) (reason : DbError) (u : Unit {0}) → demand b reason ≡ Ok u → b ≡ true
checked true reason u e = refl
checked false reason u e = absurd (cc)

recorded : {A : Type 0} (r : Result A SegError) (x : A) → record_of r ≡ Ok x → r ≡ Ok x
recorded (Ok y) x e = let same : y ≡ x = cc in ap Ok same
recorded (Err d) x e = absurd (cc)

is_ok : {A E : Type 0} (r : Result A E) (x : A) → r ≡ Ok x → IsOk r
is_ok r x e = subst IsOk (sym e) refl

row_outlined : (bytes : List ℕ) (row : RowView) → row_decoding bytes ≡ Ok row → HasOutline bytes
unfolding row_decoding spelled_segment
row_outlined bytes row e =
    let there = step _ _ row e in
    let kind = step _ _ row there.2 in
    let segment = step _ _ row kind.2 in
    let decoded = step _ _ segment.0 segment.1 in
    record {
      there = checked _ _ there.0 there.1;
      kind = is_ok _ kind.0 (recorded _ kind.0 kind.1);
      outline = outlined _ decoded.0 (recorded _ decoded.0 decoded.1);
    }

pub first_outlined : (bytes : List ℕ) (row : RowView) (rows : List RowView) → rows_decoding bytes ≡ Ok (row ∷ rows) → HasOutline bytes
unfolding rows_decoding rows_within
first_outlined [] row rows e = absurd (cc)
first_outlined (b ∷ bytes) row rows e = let first = step _ _ (row ∷ rows) e in row_outlined (b ∷ bytes) first.0 first.1

pub some_outlined : (bytes : List ℕ) (rows : List RowView) → rows_decoding bytes ≡ Ok rows → 0 < length rows → HasOutline bytes
some_outlined bytes [] e some = absurd (omega (arith, some))
some_outlined bytes (row ∷ rows) e some = first_outlined bytes row rows e
