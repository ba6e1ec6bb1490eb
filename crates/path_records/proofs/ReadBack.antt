-- What is written is read back: for `record_laws`.
use Rattle.std.proofs.Common.{◌≡◌, ℕ, suc, ◌+◌, ◌*◌, ◌^◌, ◌≤◌, ◌<◌, true, false, List, [], ◌∷◌, ◌++◌, length, drop, refl, sym, ap, ◌∙◌, arith, append_assoc, append-nil, Ok, Err, if◌then◌else◌}
use Rattle.std.specs.Prelude.{nat_le, ◌==◌}
use Rattle.std.specs.List.{slice_index}
use Rattle.std.specs.Int.{w32, w64, to_be_bytes}
use Rattle.std.specs.Cmp.Lexicographic.{pointwise_decides}
use Rattle.std.proofs.lemmas.Bool.{le-leb}
use Rattle.std.proofs.lemmas.Bool.Decides.{Decides-eqb}
use Rattle.std.proofs.lemmas.List.{drop-drop, drop_at, length-append}
use Rattle.std.proofs.lemmas.List.Concat.{flat_map-cons}
use Rattle.std.proofs.lemmas.List.Sums.{sum_by-cons}
use Rattle.byte_lists.specs.Content.{part}
use Rattle.byte_lists.specs.Numbers.{four_at, eight_at}
use Rattle.byte_lists.proofs.BigEndian.{part_between, four_at-encoded, eight_at-encoded}
use Rattle.seg_core.specs.declared.seg_type.SegType.{SegType}
use Rattle.seg_core.specs.declared.seg_type.SegType.TheVariants.{Up, Down, Core}
use Rattle.seg_core.specs.SegmentView.{SegmentView}
use Rattle.seg_core.specs.Equality.{same_bytes}
use Rattle.seg_core.specs.Registration.{type_number, type_of}
use Rattle.seg_core.specs.Encoding.{IsSegment, segment_encoding}
use Rattle.seg_core.proofs.RoundTrip.{decoding-encoding}
use Rattle.path_records.specs.declared.error.DbError.TheVariants.{BadRecord}
use Rattle.path_db.specs.declared.command.Command.TheVariants.{Register, Purge, Remove}
use Rattle.row_map.specs.Database.{RowView, AreWhole}
use Rattle.path_records.specs.RecordSteps.{◌>>=◌, demand}
use Rattle.path_records.specs.RowRecord.{row_record, rows_encoding, row_size, has_row, record_of, spelled_segment, row_decoding}
use Rattle.path_records.specs.CommandRecord.{segments_len, command_encoding, items_decoding, registration_record_decoding, purge_decoding, removal_decoding, command_decoding}
use Rattle.path_records.specs.RecordLaws.{WrittenCommandsAreRead}

-- ---- a row

type_read : (kind : SegType) → record_of (type_of (type_number kind)) ≡ Ok kind
type_read Up = refl
type_read Down = refl
type_read Core = refl

spelled_read : (s : SegmentView) → IsSegment s → spelled_segment (segment_encoding s) ≡ Ok s
unfolding spelled_segment
spelled_read s is =
    let message = segment_encoding s in
    ap (λ r. record_of r >>= λ segment. demand (same_bytes message (segment_encoding segment)) BadRecord >>= λ _. Ok segment) (decoding-encoding s is)
    ∙ ap (λ h. demand h BadRecord >>= λ _. Ok s) ((pointwise_decides Decides-eqb message message).1 refl)

room_by : (bytes : List ℕ) → row_size bytes ≤ length bytes → has_row bytes ≡ true
room_by bytes le =
    ap (λ h. if h then nat_le (row_size bytes) (length bytes) else false) (le-leb 5 (length bytes) (omega arith)) ∙ le-leb (row_size bytes) (length bytes) le

read_by : (bytes : List ℕ) (kind : SegType) (s : SegmentView) → has_row bytes ≡ true → slice_index bytes 0 ≡ type_number kind
    → part 5 (four_at 1 bytes) bytes ≡ segment_encoding s → IsSegment s → row_decoding bytes ≡ Ok (kind, s)
unfolding row_decoding
read_by bytes kind s there number content is =
    ap (λ h. demand h BadRecord >>= λ _. record_of (type_of (slice_index bytes 0)) >>= λ k. spelled_segment (part 5 (four_at 1 bytes) bytes) >>= λ segment. Ok (k, segment)) there
    ∙ ap (λ n. record_of (type_of n) >>= λ k. spelled_segment (part 5 (four_at 1 bytes) bytes) >>= λ segment. Ok (k, segment)) number
    ∙ ap (λ r. r >>= λ k. spelled_segment (part 5 (four_at 1 bytes) bytes) >>= λ segment. Ok (k, segment)) (type_read kind)
    ∙ ap (λ m. spelled_segment m >>= λ segment. Ok (kind, segment)) content
    ∙ ap (λ r. r >>= λ segment. Ok (kind, segment)) (spelled_read s is)

-- the row at the front is read, and the bytes after it are left
row_read : (first : ℕ) (encoding after : List ℕ) → length encoding ≤ 16384
    → record {
      there : has_row ((first ∷ (to_be_bytes w32 (length encoding) ++ encoding)) ++ after) ≡ true;
      content : part 5 (four_at 1 ((first ∷ (to_be_bytes w32 (length encoding) ++ encoding)) ++ after)) ((first ∷ (to_be_bytes w32 (length encoding) ++ encoding)) ++ after) ≡ encoding;
      behind : drop (row_size ((first ∷ (to_be_bytes w32 (length encoding) ++ encoding)) ++ after)) ((first ∷ (to_be_bytes w32 (length encoding) ++ encoding)) ++ after) ≡ after;
    }
row_read first encoding after short =
    let n = length encoding in
    let head = first ∷ to_be_bytes w32 n in
    let bytes = (first ∷ (to_be_bytes w32 n ++ encoding)) ++ after in
    let apart : bytes ≡ head ++ (encoding ++ after) = ap (λ (t : List ℕ). first ∷ t) (append_assoc (to_be_bytes w32 n) encoding after) in
    let small : n < 2 ^ 32 = omega (arith, short) in
    let size : four_at 1 bytes ≡ n = ap (four_at 1) apart ∙ four_at-encoded n 1 (first ∷ []) (encoding ++ after) small refl in
    let whole : length bytes ≡ 5 + (n + length after) = ap length apart ∙ length-append head (encoding ++ after) ∙ ap (λ (k : ℕ). 5 + k) (length-append encoding after) in
    record {
      there = room_by bytes (omega (arith, size, whole));
      content = ap (λ (k : ℕ). part 5 k bytes) size ∙ ap (part 5 n) apart ∙ part_between 5 n head encoding after refl refl;
      behind =
          ap (λ (k : ℕ). drop (5 + k) bytes) size ∙ ap (drop (5 + n)) apart ∙ sym (drop-drop n 5 (head ++ (encoding ++ after)))
          ∙ ap (drop n) (drop_at head (encoding ++ after) 5 refl) ∙ drop_at encoding after n refl;
    }

pub row_back : (row : RowView) (after : List ℕ) → IsSegment row.1
    → (row_decoding (row_record row ++ after) ≡ Ok row) × (drop (row_size (row_record row ++ after)) (row_record row ++ after) ≡ after)
unfolding row_record
row_back row after is =
    let so = row_read (type_number row.0) (segment_encoding row.1) after is.short in
    let bytes = (type_number row.0 ∷ (to_be_bytes w32 (length (segment_encoding row.1)) ++ segment_encoding row.1)) ++ after in
    (read_by bytes row.0 row.1 so.there refl so.content is, so.behind)

items_back : (rows : List RowView) → AreWhole rows → items_decoding (length rows) (rows_encoding rows) ≡ Ok rows
unfolding items_decoding
items_back [] whole = refl
items_back (row ∷ rows) whole =
    let bytes = row_record row ++ rows_encoding rows in
    let one = row_back row (rows_encoding rows) whole.0 in
    ap (λ (t : List ℕ). items_decoding (suc (length rows)) t) (flat_map-cons row_record row rows)
    ∙ ap (λ r. r >>= λ first. items_decoding (length rows) (drop (row_size bytes) bytes) >>= λ others. Ok (first ∷ others)) one.0
    ∙ ap (λ (t : List ℕ). items_decoding (length rows) t >>= λ others. Ok (row ∷ others)) one.1
    ∙ ap (λ r. r >>= λ others. Ok (row ∷ others)) (items_back rows whole.1)

pub record_len : (row : RowView) → length (row_record row) ≡ 5 + length (segment_encoding row.1)
unfolding row_record
record_len row = ap suc (length-append (to_be_bytes w32 (length (segment_encoding row.1))) (segment_encoding row.1)) ∙ omega arith

pub encoding_len : (rows : List RowView) → length (rows_encoding rows) ≡ segments_len rows + 5 * length rows
encoding_len [] = refl
encoding_len (row ∷ rows) =
    let split : length (rows_encoding (row ∷ rows)) ≡ length (row_record row) + length (rows_encoding rows) =
    ap length (flat_map-cons row_record row rows) ∙ length-append (row_record row) (rows_encoding rows) in
    omega (arith, split, record_len row, encoding_len rows, sum_by-cons (λ (row : RowView). length (segment_encoding row.1)) row rows)

registration_back : (rows : List RowView) → length rows ≤ 16 → segments_len rows ≤ 131072 → AreWhole rows
    → registration_record_decoding (length rows ∷ rows_encoding rows) ≡ Ok (Register rows)
unfolding registration_record_decoding
registration_back rows few short whole =
    let count = length rows in
    let items = rows_encoding rows in
    let sized : length items ≤ 131072 + 5 * count = omega (arith, encoding_len rows) in
    ap (λ h. demand h BadRecord >>= λ _. demand (nat_le (length items) (131072 + 5 * count)) BadRecord >>= λ _. items_decoding count items >>= λ rows. Ok (Register rows)) (le-leb count 16 few)
    ∙ ap (λ h. demand h BadRecord >>= λ _. items_decoding count items >>= λ rows. Ok (Register rows)) (le-leb (length items) (131072 + 5 * count) sized)
    ∙ ap (λ r. r >>= λ rows. Ok (Register rows)) (items_back rows whole)

purge_back : (moment : ℕ) → moment < 2 ^ 64 → purge_decoding (to_be_bytes w64 moment) ≡ Ok (Purge moment)
unfolding purge_decoding
purge_back moment small =
    ap (λ (n : ℕ). Ok (Purge n)) (ap (eight_at 0) (sym (append-nil (to_be_bytes w64 moment))) ∙ eight_at-encoded moment 0 [] [] small refl)

removal_back : (kind : SegType) (id : List ℕ) → length id ≡ 32 → removal_decoding (type_number kind ∷ id) ≡ Ok (Remove kind id)
unfolding removal_decoding
removal_back kind id size =
    ap (λ r. r >>= λ k. demand (length id == 32) BadRecord >>= λ _. Ok (Remove k id)) (type_read kind)
    ∙ ap (λ (n : ℕ). demand (n == 32) BadRecord >>= λ _. Ok (Remove kind id)) size

pub command_read_back : WrittenCommandsAreRead
unfolding command_decoding command_encoding
command_read_back removals (Register rows) limits whole widths allowed = registration_back rows limits.0 limits.1 whole
command_read_back removals (Purge moment) limits whole widths allowed = purge_back moment widths
command_read_back removals (Remove kind id) limits whole widths allowed =
    ap (λ h. if h then removal_decoding (type_number kind ∷ id) else Err BadRecord) allowed ∙ removal_back kind id widths
