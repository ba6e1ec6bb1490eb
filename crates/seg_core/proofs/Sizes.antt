-- The encoding of what was read of a message is no longer than the message. For the laws that
-- decoded messages are whole.
use Rattle.std.proofs.Common.{◌≡◌, ℕ, ◌+◌, ◌≤◌, List, [], ◌∷◌, ◌++◌, length, Option, Some, None, arith, length-append}
use Rattle.std.specs.Prelude.{unwrap_or}
use Rattle.std.specs.List.{sum_by}
use Rattle.std.specs.Option.{option_or}
use Rattle.std.proofs.lemmas.List.Sums.{sum_by-cons}
use Rattle.pw_wire.specs.Field.{bytes_field_encoding}
use Rattle.pw_wire.specs.Fields.{fields}
use Rattle.seg_core.specs.Message.{last_of, last_bytes_field, bytes_fields, bytes_field_or_empty}
use Rattle.seg_core.specs.Encoding.{bytes_encoding, optional_encoding}
use Rattle.pw_wire.proofs.Exports.{varint_encoding-mono}

-- how many bytes the shortest encodings of these byte strings take, as fields of one number
abbrev pub encoded_len : ℕ → List (List ℕ) → ℕ
encoded_len k all = sum_by (λ bytes. length (bytes_field_encoding k bytes)) all

-- longer bytes have no shorter field
pub bytes_field-mono : (k : ℕ) (s t : List ℕ) → length s ≤ length t → length (bytes_field_encoding k s) ≤ length (bytes_field_encoding k t)
unfolding bytes_field_encoding
bytes_field-mono k s t le = simp length-append (omega (arith, varint_encoding-mono (length s) (length t) le))

-- a field is no shorter than its bytes
pub bytes_field-within : (k : ℕ) (t : List ℕ) → length t ≤ length (bytes_field_encoding k t)
unfolding bytes_field_encoding
bytes_field-within k t = simp length-append (omega arith)

-- ---- the last of the bytes under a number

last_or : (k : ℕ) (o : Option (List ℕ)) (t : List ℕ) (n : ℕ) → length (optional_encoding k o) ≤ n → length (optional_encoding k (option_or o (Some t))) ≤ length (bytes_field_encoding k t) + n
last_or k (Some s) t n le = omega arith
last_or k None t n le = omega arith

-- the last byte string alone takes no more than all of them
pub last-length : (k : ℕ) (ts : List (List ℕ)) → length (optional_encoding k (last_of ts)) ≤ encoded_len k ts
last-length k [] = omega arith
last-length k (t ∷ ts) = rw (sum_by-cons (λ t. length (bytes_field_encoding k t)) t ts) (last_or k (last_of ts) t (encoded_len k ts) (last-length k ts))

bytes-length : (k : ℕ) (t : List ℕ) → length (bytes_encoding k t) ≤ length (bytes_field_encoding k t)
bytes-length k [] = omega arith
bytes-length k (b ∷ t) = omega arith

-- nor does the last one where empty bytes are left out
pub or_empty-length : (k : ℕ) (o : Option (List ℕ)) → length (bytes_encoding k (unwrap_or o [])) ≤ length (optional_encoding k o)
or_empty-length k (Some t) = bytes-length k t
or_empty-length k None = omega arith

-- ---- the parts of a message of two fields

-- The message is no shorter than the shortest encodings of the values under its field numbers 1 and
-- 2.
pub record HasRoom (message : List ℕ) : Type 0 where
  pub both : encoded_len 1 (bytes_fields 1 (fields message)) + encoded_len 2 (bytes_fields 2 (fields message)) ≤ length message

-- both fields, each left out where it is empty
pub parts-length : (message : List ℕ) → HasRoom message
    → length (bytes_encoding 1 (bytes_field_or_empty 1 (fields message)) ++ bytes_encoding 2 (bytes_field_or_empty 2 (fields message))) ≤ length message
parts-length message room =
    let fs = fields message in
    rw (length-append (bytes_encoding 1 (bytes_field_or_empty 1 fs)) (bytes_encoding 2 (bytes_field_or_empty 2 fs)))
    (omega (arith, room.both, or_empty-length 1 (last_bytes_field 1 fs), or_empty-length 2 (last_bytes_field 2 fs), last-length 1 (bytes_fields 1 fs), last-length 2 (bytes_fields 2 fs)))

-- the first field with a part that did not grow, and the second unchanged
pub entry-length : (message signed encoded : List ℕ) → HasRoom message → last_bytes_field 1 (fields message) ≡ Some signed → length encoded ≤ length signed
    → length (bytes_field_encoding 1 encoded ++ optional_encoding 2 (last_bytes_field 2 (fields message))) ≤ length message
entry-length message signed encoded room is shorter =
    let fs = fields message in
    let first : length (bytes_field_encoding 1 signed) ≤ encoded_len 1 (bytes_fields 1 fs) = rw is at (last-length 1 (bytes_fields 1 fs)) in
    rw (length-append (bytes_field_encoding 1 encoded) (optional_encoding 2 (last_bytes_field 2 fs)))
    (omega (arith, room.both, bytes_field-mono 1 encoded signed shorter, first, last-length 2 (bytes_fields 2 fs)))
