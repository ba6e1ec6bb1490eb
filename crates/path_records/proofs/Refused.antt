-- What the refusals of rows mean: for `record_laws`.
use Rattle.std.proofs.Common.{◌≡◌, ◌⊎◌, inl, inr, ℕ, zero, suc, ◌≤◌, ◌<◌, Bool, true, false, List, [], ◌∷◌, ◌++◌, length, drop, refl, sym, ap, subst, ◌∙◌, arith, append_assoc, append-nil, Ok, Err, Some, None}
use Rattle.std.specs.Prelude.{Result, Option}
use Rattle.std.specs.List.{slice_index}
use Rattle.std.specs.Option.{option_or}
use Rattle.std.proofs.lemmas.List.{length-drop, length-append, drop_at}
use Rattle.std.proofs.lemmas.List.Concat.{flat_map-cons}
use Rattle.byte_lists.specs.Content.{AreBytes, part}
use Rattle.byte_lists.specs.Numbers.{four_at}
use Rattle.seg_core.specs.declared.error.SegError.{SegError}
use Rattle.seg_core.specs.Encoding.{IsSegment, segment_encoding}
use Rattle.seg_core.specs.Equality.{same_bytes}
use Rattle.seg_core.specs.Message.{last_of}
use Rattle.seg_core.specs.Registration.{type_of}
use Rattle.seg_core.specs.Segment.{segment_decoding}
use Rattle.path_records.specs.declared.error.DbError.{DbError}
use Rattle.path_records.specs.declared.error.DbError.TheVariants.{NoMemory, BadRecord, Order}
use Rattle.row_map.specs.Database.{RowView, IsDatabase, AreWhole}
use Rattle.path_records.specs.RecordSteps.{◌>>=◌, demand}
use Rattle.path_records.specs.RowRecord.{row_record, rows_encoding, row_size, has_row, record_of, spelled_segment, row_decoding, is_row_above, rows_within, rows_decoding}
use Rattle.path_records.specs.RecordRefusals.{HasNoRecord, HasLowerRow, BadRecordIsExact, OrderIsExact, RowsWantNoMemory}
use Rattle.path_records.proofs.Spelled.{row_spelled, row_whole, bytes_drop}
use Rattle.path_records.proofs.ReadBack.{row_back, record_len}
use Rattle.path_records.proofs.RowsBack.{Rises, rises, rising}
use Rattle.path_records.proofs.RowsRead.{last_behind, rows_behind, rows_begun, row_next, row_refused, row_falls}

-- ---- a row is refused with BadRecord alone

pub bad_step : {A B : Type 0} (r : Result A DbError) (rest : A → Result B DbError) (e : DbError) → ((x : DbError) → r ≡ Err x → x ≡ BadRecord)
    → ((a : A) (x : DbError) → rest a ≡ Err x → x ≡ BadRecord) → (r >>= rest) ≡ Err e → e ≡ BadRecord
bad_step (Ok a) rest e first others read = others a e read
bad_step (Err x) rest e first others read = let same : x ≡ e = cc in sym same ∙ first x refl

pub bad_end : {A : Type 0} (a : A) (x : DbError) → Ok a ≡ Err x → x ≡ BadRecord
bad_end a x e = absurd cc

pub bad_check : (holds : Bool) (x : DbError) → demand holds BadRecord ≡ Err x → x ≡ BadRecord
bad_check true x e = absurd cc
bad_check false x e = let same : BadRecord ≡ x = cc in sym same

pub bad_record : {A : Type 0} (r : Result A SegError) (x : DbError) → record_of r ≡ Err x → x ≡ BadRecord
bad_record (Ok a) x e = absurd cc
bad_record (Err y) x e = let same : BadRecord ≡ x = cc in sym same

bad_spelling : (message : List ℕ) (x : DbError) → spelled_segment message ≡ Err x → x ≡ BadRecord
unfolding spelled_segment
bad_spelling message x read =
    bad_step (record_of (segment_decoding message)) _ x (bad_record (segment_decoding message))
    (λ segment y later. bad_step (demand (same_bytes message (segment_encoding segment)) BadRecord) (λ _. Ok segment) y (bad_check (same_bytes message (segment_encoding segment))) (λ _ z ends. bad_end segment z ends) later) read

pub bad_row : (bytes : List ℕ) (x : DbError) → row_decoding bytes ≡ Err x → x ≡ BadRecord
unfolding row_decoding
bad_row bytes x read =
    let message = part 5 (four_at 1 bytes) bytes in
    bad_step (demand (has_row bytes) BadRecord) _ x (bad_check (has_row bytes))
    (λ _ y later. bad_step (record_of (type_of (slice_index bytes 0))) _ y (bad_record (type_of (slice_index bytes 0)))
    (λ kind z last. bad_step (spelled_segment message) (λ segment. Ok (kind, segment)) z (bad_spelling message) (λ segment w ends. bad_end (kind, segment) w ends) last) later) read

-- ---- the bytes at which a reading ends with an error

-- a row whose key is not above the key of the row before
record Lower (before : Option RowView) (bytes : List ℕ) (e : DbError) : Type 0 where
  row : RowView
  read : row_decoding bytes ≡ Ok row
  lower : is_row_above before row ≡ false
  reason : e ≡ Order

-- after rows in order there are bytes that are refused as a row, or a row whose key is not above
-- the last one's
record Stops (before : Option RowView) (bytes : List ℕ) (e : DbError) : Type 0 where
  rows : List RowView
  rest : List ℕ
  rise : Rises before rows
  whole : AreWhole rows
  split : bytes ≡ rows_encoding rows ++ rest
  some : 0 < length rest
  each : AreBytes rest
  cause : (row_decoding rest ≡ Err e) ⊎ Lower (option_or (last_of rows) before) rest e

or_some : (last : Option RowView) (row : RowView) (before : Option RowView) → option_or last (Some row) ≡ option_or (option_or last (Some row)) before
or_some None row before = refl
or_some (Some x) row before = refl

stops_later : (before : Option RowView) (row : RowView) (bytes behind : List ℕ) (e : DbError) → row_record row ++ behind ≡ bytes → is_row_above before row ≡ true → IsSegment row.1
    → Stops (Some row) behind e → Stops before bytes e
stops_later before row bytes behind e spelled above is so = record {
  rows = row ∷ so.rows;
  rest = so.rest;
  rise = (above, so.rise);
  whole = (is, so.whole);
  split =
      sym spelled ∙ ap (λ (t : List ℕ). row_record row ++ t) so.split ∙ sym (append_assoc (row_record row) (rows_encoding so.rows) so.rest)
      ∙ ap (λ (t : List ℕ). t ++ so.rest) (sym (flat_map-cons row_record row so.rows));
  some = so.some;
  each = so.each;
  cause = subst (λ (l : Option RowView). (row_decoding so.rest ≡ Err e) ⊎ Lower l so.rest e) (or_some (last_of so.rows) row before) so.cause;
}

failed_of : {A B : Type 0} (r : Result A DbError) (f : A → B) (e : DbError) → (r >>= λ x. Ok (f x)) ≡ Err e → r ≡ Err e
failed_of (Ok x) f e read = absurd cc
failed_of (Err x) f e read = let same : x ≡ e = cc in ap (λ (y : DbError). Err y) same

at_key : (n : ℕ) (before : Option RowView) (bytes : List ℕ) (e : DbError) (row : RowView) → AreBytes bytes → 0 < length bytes
    → ((row : RowView) → rows_within n (Some row) (drop (row_size bytes) bytes) ≡ Err e → Stops (Some row) (drop (row_size bytes) bytes) e)
    → row_decoding bytes ≡ Ok row → (holds : Bool) → is_row_above before row ≡ holds
    → (demand holds Order >>= λ _. rows_within n (Some row) (drop (row_size bytes) bytes) >>= λ rows. Ok (row ∷ rows)) ≡ Err e → Stops before bytes e
at_key n before bytes e row each some later is true above read =
    let behind = drop (row_size bytes) bytes in
    let failed = failed_of (rows_within n (Some row) behind) (λ rows. row ∷ rows) e read in
    stops_later before row bytes behind e (row_spelled bytes row each is) above (row_whole bytes row each is) (later row failed)
at_key n before bytes e row each some later is false lower read =
    let same : Order ≡ e = cc in
    record { rows = []; rest = bytes; rise = tt; whole = tt; split = refl; some = some; each = each; cause = inr (record { row = row; read = is; lower = lower; reason = sym same }) }

at_row : (n : ℕ) (before : Option RowView) (bytes : List ℕ) (e : DbError) → AreBytes bytes → 0 < length bytes
    → ((row : RowView) → rows_within n (Some row) (drop (row_size bytes) bytes) ≡ Err e → Stops (Some row) (drop (row_size bytes) bytes) e)
    → (r : Result RowView DbError) → row_decoding bytes ≡ r
    → (r >>= λ row. demand (is_row_above before row) Order >>= λ _. rows_within n (Some row) (drop (row_size bytes) bytes) >>= λ rows. Ok (row ∷ rows)) ≡ Err e → Stops before bytes e
at_row n before bytes e each some later (Ok row) is read = at_key n before bytes e row each some later is (is_row_above before row) refl read
at_row n before bytes e each some later (Err x) is read =
    let same : x ≡ e = cc in
    record { rows = []; rest = bytes; rise = tt; whole = tt; split = refl; some = some; each = each; cause = inl (is ∙ ap (λ (y : DbError). Err y) same) }

stops : (n : ℕ) (before : Option RowView) (bytes : List ℕ) (e : DbError) → AreBytes bytes → length bytes ≤ n → rows_within n before bytes ≡ Err e → Stops before bytes e
unfolding rows_within
stops zero before bytes e each le read = absurd cc
stops (suc n) before [] e each le read = absurd cc
stops (suc n) before (b ∷ tail) e each le read =
    let bytes = b ∷ tail in
    let behind = drop (row_size bytes) bytes in
    let short : length behind ≤ n = omega (arith, le, length-drop (row_size bytes) bytes) in
    at_row n before bytes e each (omega arith) (λ row later. stops n (Some row) behind e (bytes_drop (row_size bytes) bytes each) short later) (row_decoding bytes) refl read

or_none : (last : Option RowView) → option_or last None ≡ last
or_none None = refl
or_none (Some x) = refl

-- ---- after rows in order

behind_more : (whole : Result (List RowView) DbError) (so_far others : List RowView) (rest : List ℕ) → Rises (last_of so_far) others → AreWhole others
    → whole ≡ rows_behind so_far (rows_encoding others ++ rest) → whole ≡ rows_behind (so_far ++ others) rest
behind_more whole so_far [] rest rise all so = so ∙ ap (λ (l : List RowView). rows_behind l rest) (sym (append-nil so_far))
behind_more whole so_far (row ∷ others) rest rise all so =
    let after = rows_encoding others ++ rest in
    let bytes = row_record row ++ after in
    let apart : rows_encoding (row ∷ others) ++ rest ≡ bytes =
    ap (λ (t : List ℕ). t ++ rest) (flat_map-cons row_record row others) ∙ append_assoc (row_record row) (rows_encoding others) rest in
    let back = row_back row after all.0 in
    let some : 0 < length bytes = omega (arith, length-append (row_record row) after, record_len row) in
    let next = row_next whole so_far row bytes some back.0 rise.0 (so ∙ ap (λ (t : List ℕ). rows_behind so_far t) apart) in
    let later : Rises (last_of (so_far ++ row ∷ [])) others = subst (λ (o : Option RowView). Rises o others) (sym (last_behind so_far row)) rise.1 in
    behind_more whole (so_far ++ row ∷ []) others rest later all.1 (next ∙ ap (λ (t : List ℕ). rows_behind (so_far ++ row ∷ []) t) back.1)
    ∙ ap (λ (l : List RowView). rows_behind l rest) (append_assoc so_far (row ∷ []) others)

pub behind_database : (rows : List RowView) (rest : List ℕ) → IsDatabase rows → rows_decoding (rows_encoding rows ++ rest) ≡ rows_behind rows rest
behind_database rows rest is = behind_more _ [] rows rest (rises rows is.rising) is.whole (rows_begun (rows_encoding rows ++ rest))

-- ---- the refusals

refused_none : (rest : List ℕ) → AreBytes rest → ((row : RowView) (after : List ℕ) → IsSegment row.1 → rest ≡ row_record row ++ after → ⊥)
    → (r : Result RowView DbError) → row_decoding rest ≡ r → row_decoding rest ≡ Err BadRecord
refused_none rest each none (Ok row) is =
    absurd (none row (drop (row_size rest) rest) (row_whole rest row each is) (sym (row_spelled rest row each is)))
refused_none rest each none (Err x) is = is ∙ ap (λ (y : DbError). Err y) (bad_row rest x is)

rest_bytes : (front rest bytes : List ℕ) → AreBytes bytes → bytes ≡ front ++ rest → AreBytes rest
rest_bytes front rest bytes each split =
    subst AreBytes (ap (drop (length front)) split ∙ drop_at front rest (length front) refl) (bytes_drop (length front) bytes each)

not_both : (row : RowView) (e : DbError) (r : Result RowView DbError) → r ≡ Ok row → r ≡ Err e → ⊥
not_both row e (Ok x) a b = absurd cc
not_both row e (Err x) a b = absurd cc

stopped : (bytes : List ℕ) (e : DbError) → AreBytes bytes → rows_decoding bytes ≡ Err e → Stops None bytes e
unfolding rows_decoding
stopped bytes e each read = stops (length bytes) None bytes e each (omega arith) read

database_of : (bytes : List ℕ) (e : DbError) (so : Stops None bytes e) → IsDatabase so.rows
database_of bytes e so = record { rising = rising so.rows so.rise; whole = so.whole }

no_record : (bytes : List ℕ) (so : Stops None bytes BadRecord) → (row_decoding so.rest ≡ Err BadRecord) ⊎ Lower (option_or (last_of so.rows) None) so.rest BadRecord → HasNoRecord bytes
no_record bytes so (inl bad) = record {
  rows = so.rows;
  rest = so.rest;
  database = database_of bytes BadRecord so;
  split = so.split;
  some = so.some;
  none = λ row after is same. not_both row BadRecord (row_decoding so.rest) (ap row_decoding same ∙ (row_back row after is).0) bad;
}
no_record bytes so (inr is) = let same : BadRecord ≡ Order = is.reason in absurd cc

refused_record : (bytes : List ℕ) → AreBytes bytes → HasNoRecord bytes → rows_decoding bytes ≡ Err BadRecord
refused_record bytes each has =
    let bad = refused_none has.rest (rest_bytes (rows_encoding has.rows) has.rest bytes each has.split) has.none (row_decoding has.rest) refl in
    ap rows_decoding has.split ∙ row_refused _ has.rows BadRecord has.rest has.some bad (behind_database has.rows has.rest has.database)

pub bad_exact : BadRecordIsExact
bad_exact bytes each = (λ read. let so = stopped bytes BadRecord each read in no_record bytes so so.cause, refused_record bytes each)

lower_row : (bytes : List ℕ) (so : Stops None bytes Order) → (row_decoding so.rest ≡ Err Order) ⊎ Lower (option_or (last_of so.rows) None) so.rest Order → HasLowerRow bytes
lower_row bytes so (inl bad) = let same : Order ≡ BadRecord = bad_row so.rest Order bad in absurd cc
lower_row bytes so (inr is) = record {
  rows = so.rows;
  row = is.row;
  rest = drop (row_size so.rest) so.rest;
  database = database_of bytes Order so;
  split = so.split ∙ ap (λ (t : List ℕ). rows_encoding so.rows ++ t) (sym (row_spelled so.rest is.row so.each is.read));
  whole = row_whole so.rest is.row so.each is.read;
  lower = ap (λ (o : Option RowView). is_row_above o is.row) (sym (or_none (last_of so.rows))) ∙ is.lower;
}

refused_lower : (bytes : List ℕ) → HasLowerRow bytes → rows_decoding bytes ≡ Err Order
refused_lower bytes has =
    let rest = row_record has.row ++ has.rest in
    let some : 0 < length rest = omega (arith, length-append (row_record has.row) has.rest, record_len has.row) in
    ap rows_decoding has.split ∙ row_falls _ has.rows has.row rest some (row_back has.row has.rest has.whole).0 has.lower (behind_database has.rows rest has.database)

pub order_exact : OrderIsExact
order_exact bytes each = (λ read. let so = stopped bytes Order each read in lower_row bytes so so.cause, refused_lower bytes)

no_memory : (bytes : List ℕ) (so : Stops None bytes NoMemory) → (row_decoding so.rest ≡ Err NoMemory) ⊎ Lower (option_or (last_of so.rows) None) so.rest NoMemory → ⊥
no_memory bytes so (inl bad) = let same : NoMemory ≡ BadRecord = bad_row so.rest NoMemory bad in absurd cc
no_memory bytes so (inr is) = let same : NoMemory ≡ Order = is.reason in absurd cc

pub rows_want_none : RowsWantNoMemory
rows_want_none bytes each read = let so = stopped bytes NoMemory each read in no_memory bytes so so.cause
