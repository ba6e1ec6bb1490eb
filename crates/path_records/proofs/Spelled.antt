-- The bytes that are read are the record of the result: for `record_laws`.
use Rattle.std.proofs.Common.{◌≡◌, ℕ, zero, suc, ◌+◌, ◌*◌, ◌≤◌, Bool, true, false, List, [], ◌∷◌, ◌++◌, length, drop, take, refl, sym, ap, subst, ◌∙◌, arith, append_assoc, take-append-drop, Ok, Err, if◌then◌else◌}
use Rattle.std.specs.Prelude.{Result, nat_le, ◌==◌}
use Rattle.std.specs.List.{slice_index}
use Rattle.std.specs.Int.{w32, to_be_bytes}
use Rattle.std.specs.Cmp.Lexicographic.{pointwise_decides}
use Rattle.std.proofs.lemmas.Bool.{eqb-true, leb-true}
use Rattle.std.proofs.lemmas.Bool.Decides.{Decides-eqb}
use Rattle.std.proofs.lemmas.List.{drop-drop}
use Rattle.std.proofs.lemmas.List.Concat.{flat_map-cons}
use Rattle.byte_lists.specs.Content.{AreBytes, part}
use Rattle.byte_lists.specs.Numbers.{four_at, eight_at}
use Rattle.byte_lists.proofs.Contents.{length-part, bytes-part}
use Rattle.byte_lists.proofs.BigEndian.{encoded-four_at, encoded-eight_at}
use Rattle.seg_core.specs.declared.error.SegError.{SegError}
use Rattle.seg_core.specs.declared.seg_type.SegType.{SegType}
use Rattle.seg_core.specs.declared.seg_type.SegType.TheVariants.{Up, Down, Core}
use Rattle.seg_core.specs.SegmentView.{SegmentView}
use Rattle.seg_core.specs.Equality.{same_bytes}
use Rattle.seg_core.specs.Registration.{type_number, type_of}
use Rattle.seg_core.specs.Segment.{segment_decoding}
use Rattle.seg_core.specs.Encoding.{IsSegment, segment_encoding}
use Rattle.seg_core.proofs.Whole.{decoding-IsSegment}
use Rattle.path_records.specs.declared.error.DbError.{DbError}
use Rattle.path_records.specs.declared.error.DbError.TheVariants.{BadRecord}
use Rattle.path_db.specs.declared.command.Command.{Command}
use Rattle.path_db.specs.declared.command.Command.TheVariants.{Register, Purge, Remove}
use Rattle.row_map.specs.Database.{RowView}
use Rattle.path_records.specs.RecordSteps.{◌>>=◌, demand}
use Rattle.path_records.specs.RowRecord.{row_record, rows_encoding, row_size, has_row, record_of, spelled_segment, row_decoding}
use Rattle.path_records.specs.CommandRecord.{command_encoding, items_decoding, registration_record_decoding, purge_decoding, removal_decoding, command_decoding}
use Rattle.path_db.proofs.Exports.{take_all}
use Rattle.path_records.specs.RecordLaws.{ReadCommandsAreSpelled, CommandsAreReadOn}

-- ---- steps

-- a step that had a value, and the step that followed it
pub record Went {A B : Type 0} (r : Result A DbError) (rest : A → Result B DbError) (b : B) : Type 0 where
  pub value : A
  pub first : r ≡ Ok value
  pub others : rest value ≡ Ok b

pub went : {A B : Type 0} (r : Result A DbError) (rest : A → Result B DbError) (b : B) → (r >>= rest) ≡ Ok b → Went r rest b
went (Ok x) rest b e = record { value = x; first = refl; others = e }
went (Err x) rest b e = absurd cc

pub checked : {B : Type 0} (holds : Bool) (rest : Result B DbError) (b : B) → (demand holds BadRecord >>= λ _. rest) ≡ Ok b → (holds ≡ true) × (rest ≡ Ok b)
checked true rest b e = (refl, e)
checked false rest b e = absurd cc

-- ---- a row

type_back : (n : ℕ) (kind : SegType) → record_of (type_of n) ≡ Ok kind → type_number kind ≡ n
type_back zero kind e = absurd cc
type_back (suc zero) kind e = let same : Up ≡ kind = cc in sym (ap type_number same)
type_back (suc (suc zero)) kind e = let same : Down ≡ kind = cc in sym (ap type_number same)
type_back (suc (suc (suc zero))) kind e = let same : Core ≡ kind = cc in sym (ap type_number same)
type_back (suc (suc (suc (suc n)))) kind e = absurd cc

pub segment_back : (message : List ℕ) (s : SegmentView) → spelled_segment message ≡ Ok s → message ≡ segment_encoding s
unfolding spelled_segment
segment_back message s read =
    let a = went (record_of (segment_decoding message)) (λ segment. demand (same_bytes message (segment_encoding segment)) BadRecord >>= λ _. Ok segment) s read in
    let b = checked (same_bytes message (segment_encoding a.value)) (Ok a.value) s a.others in
    let same : a.value ≡ s = cc (b.1) in
    (pointwise_decides Decides-eqb message (segment_encoding a.value)).0 b.0 ∙ ap segment_encoding same

has_room_by : (b : Bool) (bytes : List ℕ) → (if b then nat_le (row_size bytes) (length bytes) else false) ≡ true → row_size bytes ≤ length bytes
has_room_by true bytes e = leb-true (row_size bytes) (length bytes) e
has_room_by false bytes e = absurd cc

pub has_room : (bytes : List ℕ) → has_row bytes ≡ true → row_size bytes ≤ length bytes
has_room bytes there = has_room_by (nat_le 5 (length bytes)) bytes there

-- a row at the front, by its pieces
row_of_pieces : (first : ℕ) (tail encoding : List ℕ) → AreBytes (first ∷ tail) → row_size (first ∷ tail) ≤ length (first ∷ tail)
    → part 5 (four_at 1 (first ∷ tail)) (first ∷ tail) ≡ encoding
    → (first ∷ (to_be_bytes w32 (length encoding) ++ encoding)) ++ drop (row_size (first ∷ tail)) (first ∷ tail) ≡ first ∷ tail
row_of_pieces first tail encoding each inside is =
    let bytes = first ∷ tail in
    let n = four_at 1 bytes in
    let size : length encoding ≡ n = ap length (sym is) ∙ length-part 5 n bytes inside in
    let head : to_be_bytes w32 (length encoding) ≡ take 4 tail = ap (to_be_bytes w32) size ∙ encoded-four_at 1 bytes each (omega arith) in
    let rest : encoding ++ drop (4 + n) tail ≡ drop 4 tail =
    ap (λ (t : List ℕ). t ++ drop (4 + n) tail) (sym is) ∙ ap (λ (t : List ℕ). take n (drop 4 tail) ++ t) (sym (drop-drop n 4 tail)) ∙ take-append-drop n (drop 4 tail) in
    let more : 5 + n ≡ suc (4 + n) = omega arith in
    let left : drop (row_size bytes) bytes ≡ drop (4 + n) tail = ap (λ (k : ℕ). drop k bytes) more in
    ap (λ (t : List ℕ). (first ∷ (to_be_bytes w32 (length encoding) ++ encoding)) ++ t) left
    ∙ ap (λ (t : List ℕ). first ∷ t)
    (append_assoc (to_be_bytes w32 (length encoding)) encoding (drop (4 + n) tail)
    ∙ ap (λ (t : List ℕ). to_be_bytes w32 (length encoding) ++ t) rest
    ∙ ap (λ (t : List ℕ). t ++ drop 4 tail) head
    ∙ take-append-drop 4 tail)

-- the checks that a row which is read has passed
pub record RowSteps (bytes : List ℕ) (row : RowView) : Type 0 where
  pub there : has_row bytes ≡ true
  pub kind : record_of (type_of (slice_index bytes 0)) ≡ Ok row.0
  pub segment : spelled_segment (part 5 (four_at 1 bytes) bytes) ≡ Ok row.1

pub row_steps : (bytes : List ℕ) (row : RowView) → row_decoding bytes ≡ Ok row → RowSteps bytes row
unfolding row_decoding
row_steps bytes row read =
    let message = part 5 (four_at 1 bytes) bytes in
    let a = checked (has_row bytes) (record_of (type_of (slice_index bytes 0)) >>= λ kind. spelled_segment message >>= λ segment. Ok (kind, segment)) row read in
    let k = went (record_of (type_of (slice_index bytes 0))) (λ kind. spelled_segment message >>= λ segment. Ok (kind, segment)) row a.1 in
    let s = went (spelled_segment message) (λ segment. Ok (k.value, segment)) row k.others in
    let same : (k.value, s.value) ≡ row = cc (s.others) in
    subst (RowSteps bytes) same (record { there = a.0; kind = k.first; segment = s.first })

pub row_spelled : (bytes : List ℕ) (row : RowView) → AreBytes bytes → row_decoding bytes ≡ Ok row → row_record row ++ drop (row_size bytes) bytes ≡ bytes
unfolding row_record
row_spelled [] row each read = let so = row_steps [] row read in absurd (omega (arith, has_room [] so.there))
row_spelled (first ∷ tail) row each read =
    let bytes = first ∷ tail in
    let so = row_steps bytes row read in
    ap (λ (n : ℕ). (n ∷ (to_be_bytes w32 (length (segment_encoding row.1)) ++ segment_encoding row.1)) ++ drop (row_size bytes) bytes) (type_back first row.0 so.kind)
    ∙ row_of_pieces first tail (segment_encoding row.1) each (has_room bytes so.there) (segment_back (part 5 (four_at 1 bytes) bytes) row.1 so.segment)

is_of : (r : Result SegmentView SegError) (s : SegmentView) → record_of r ≡ Ok s → r ≡ Ok s
is_of (Ok x) s e = let same : x ≡ s = cc in ap (λ (x : SegmentView). Ok x) same
is_of (Err x) s e = absurd cc

-- a segment that is read is whole
spelled_whole : (message : List ℕ) (s : SegmentView) → AreBytes message → spelled_segment message ≡ Ok s → IsSegment s
unfolding spelled_segment
spelled_whole message s each read =
    let a = went (record_of (segment_decoding message)) (λ segment. demand (same_bytes message (segment_encoding segment)) BadRecord >>= λ _. Ok segment) s read in
    let b = checked (same_bytes message (segment_encoding a.value)) (Ok a.value) s a.others in
    let same : a.value ≡ s = cc (b.1) in
    subst IsSegment same (decoding-IsSegment message a.value each (is_of (segment_decoding message) a.value a.first))

pub row_whole : (bytes : List ℕ) (row : RowView) → AreBytes bytes → row_decoding bytes ≡ Ok row → IsSegment row.1
row_whole bytes row each read =
    let so = row_steps bytes row read in
    spelled_whole (part 5 (four_at 1 bytes) bytes) row.1 (bytes-part 5 (four_at 1 bytes) bytes each) so.segment

pub bytes_drop : (n : ℕ) (bytes : List ℕ) → AreBytes bytes → AreBytes (drop n bytes)
bytes_drop zero bytes each i = each i
bytes_drop (suc n) [] each i = each i
bytes_drop (suc n) (b ∷ bytes) each i = bytes_drop n bytes (λ j. each (suc j)) i

items_spelled : (count : ℕ) (bytes : List ℕ) (rows : List RowView) → AreBytes bytes → items_decoding count bytes ≡ Ok rows → (rows_encoding rows ≡ bytes) × (length rows ≡ count)
unfolding items_decoding
items_spelled zero [] rows each read = let none : [] ≡ rows = cc in (ap rows_encoding (sym none), ap length (sym none))
items_spelled zero (b ∷ bytes) rows each read = absurd cc
items_spelled (suc count) bytes rows each read =
    let behind = drop (row_size bytes) bytes in
    let a = went (row_decoding bytes) (λ row. items_decoding count behind >>= λ rows. Ok (row ∷ rows)) rows read in
    let b = went (items_decoding count behind) (λ rows. Ok (a.value ∷ rows)) rows a.others in
    let same : (a.value ∷ b.value) ≡ rows = cc (b.others) in
    let later = items_spelled count behind b.value (bytes_drop (row_size bytes) bytes each) b.first in (
      ap rows_encoding (sym same) ∙ flat_map-cons row_record a.value b.value ∙ ap (λ (t : List ℕ). row_record a.value ++ t) later.0 ∙ row_spelled bytes a.value each a.first,
      ap length (sym same) ∙ ap suc later.1,
    )

-- ---- commands

pub tail_bytes : (b : ℕ) (bytes : List ℕ) → AreBytes (b ∷ bytes) → AreBytes bytes
tail_bytes b bytes each i = each (suc i)

registration_spelled : (body : List ℕ) (command : Command) → AreBytes body → registration_record_decoding body ≡ Ok command → command_encoding command ≡ 1 ∷ body
unfolding registration_record_decoding command_encoding
registration_spelled [] command each read = absurd cc
registration_spelled (count ∷ items) command each read =
    let a = checked (nat_le count 16) (demand (nat_le (length items) (131072 + 5 * count)) BadRecord >>= λ _. items_decoding count items >>= λ rows. Ok (Register rows)) command read in
    let b = checked (nat_le (length items) (131072 + 5 * count)) (items_decoding count items >>= λ rows. Ok (Register rows)) command a.1 in
    let r = went (items_decoding count items) (λ rows. Ok (Register rows)) command b.1 in
    let same : Register r.value ≡ command = cc (r.others) in
    let so = items_spelled count items r.value (tail_bytes count items each) r.first in
    ap command_encoding (sym same) ∙ ap (λ (t : List ℕ). 1 ∷ length r.value ∷ t) so.0 ∙ ap (λ (n : ℕ). 1 ∷ n ∷ items) so.1

purge_spelled : (body : List ℕ) (command : Command) → AreBytes body → purge_decoding body ≡ Ok command → command_encoding command ≡ 2 ∷ body
unfolding purge_decoding command_encoding
purge_spelled body command each read =
    let a = checked (length body == 8) (Ok (Purge (eight_at 0 body))) command read in
    let size : length body ≡ 8 = eqb-true (length body) 8 a.0 in
    let same : Purge (eight_at 0 body) ≡ command = cc (a.1) in
    let whole : take 8 body ≡ body = take_all 8 body (omega arith) in
    ap command_encoding (sym same) ∙ ap (λ (t : List ℕ). 2 ∷ t) (encoded-eight_at 0 body each (omega arith) ∙ whole)

removal_spelled : (body : List ℕ) (command : Command) → removal_decoding body ≡ Ok command → command_encoding command ≡ 3 ∷ body
unfolding removal_decoding command_encoding
removal_spelled [] command read = absurd cc
removal_spelled (kind ∷ id) command read =
    let k = went (record_of (type_of kind)) (λ kind. demand (length id == 32) BadRecord >>= λ _. Ok (Remove kind id)) command read in
    let a = checked (length id == 32) (Ok (Remove k.value id)) command k.others in
    let same : Remove k.value id ≡ command = cc (a.1) in
    ap command_encoding (sym same) ∙ ap (λ (n : ℕ). 3 ∷ n ∷ id) (type_back kind k.value k.first)

by_kind : (a b d removals : Bool) (kind : ℕ) (body : List ℕ) (command : Command) → AreBytes body → (kind == 1) ≡ a → (kind == 2) ≡ b → (kind == 3) ≡ d
    → (if a then registration_record_decoding body else if b then purge_decoding body else if d then (if removals then removal_decoding body else Err BadRecord) else Err BadRecord) ≡ Ok command
    → command_encoding command ≡ kind ∷ body
by_kind true b d removals kind body command each is_a is_b is_d read = registration_spelled body command each read ∙ ap (λ (n : ℕ). n ∷ body) (sym (eqb-true kind 1 is_a))
by_kind false true d removals kind body command each is_a is_b is_d read = purge_spelled body command each read ∙ ap (λ (n : ℕ). n ∷ body) (sym (eqb-true kind 2 is_b))
by_kind false false true true kind body command each is_a is_b is_d read = removal_spelled body command read ∙ ap (λ (n : ℕ). n ∷ body) (sym (eqb-true kind 3 is_d))
by_kind false false true false kind body command each is_a is_b is_d read = absurd cc
by_kind false false false removals kind body command each is_a is_b is_d read = absurd cc

pub command_spelled : ReadCommandsAreSpelled
unfolding command_decoding
command_spelled removals [] command each read = absurd cc
command_spelled removals (kind ∷ body) command each read =
    by_kind (kind == 1) (kind == 2) (kind == 3) removals kind body command (tail_bytes kind body each) refl refl refl read

reads_on : (a b d small large : Bool) (x y z : Result Command DbError) (command : Command) → (small ≡ true → large ≡ true)
    → (if a then x else if b then y else if d then (if small then z else Err BadRecord) else Err BadRecord) ≡ Ok command
    → (if a then x else if b then y else if d then (if large then z else Err BadRecord) else Err BadRecord) ≡ Ok command
reads_on true b d small large x y z command more read = read
reads_on false true d small large x y z command more read = read
reads_on false false true true true x y z command more read = read
reads_on false false true true false x y z command more read = let no = more refl in absurd cc
reads_on false false true false large x y z command more read = absurd cc
reads_on false false false small large x y z command more read = absurd cc

pub command_read_on : CommandsAreReadOn
unfolding command_decoding
command_read_on small large [] command more read = absurd cc
command_read_on small large (kind ∷ body) command more read =
    reads_on (kind == 1) (kind == 2) (kind == 3) small large (registration_record_decoding body) (purge_decoding body) (removal_decoding body) command more read
