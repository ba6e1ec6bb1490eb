-- A message of bytes, of any length, is no shorter than the shortest encodings of the values under
-- its field numbers 1 and 2. For the laws that decoded messages are whole.
use Rattle.std.proofs.Common.{◌≡◌, ℕ, ◌+◌, ◌<◌, ◌≤◌, List, [], ◌∷◌, ◌++◌, length, drop, ap, ◌∙◌, inl, inr, arith, length-append}
use Rattle.std.specs.Prelude.{◌==◌, if◌then◌else◌}
use Rattle.std.proofs.lemmas.Bool.{cases_Bool, eqb-true}
use Rattle.std.proofs.lemmas.List.{length-drop}
use Rattle.std.proofs.lemmas.List.Sums.{sum_by-append, sum_by-cons}
use Rattle.pw_wire.specs.Varint.{EncodesNumber}
use Rattle.pw_wire.specs.Field.{FieldValue, Varint, Fixed64, Bytes, Fixed32, FieldView, IsValue, bytes_field_encoding}
use Rattle.pw_wire.specs.Fields.{AreFields, fields}
use Rattle.pw_wire.proofs.Exports.{varint_encoding_shortest}
use Rattle.seg_core.specs.Message.{bytes_of_value, bytes_fields}
use Rattle.seg_core.proofs.EncodedLengths.{field-length}
use Rattle.seg_core.proofs.Sizes.{encoded_len, HasRoom}

-- a varint has at least one byte
some_byte : (bytes : List ℕ) (n : ℕ) → EncodesNumber bytes n → 1 ≤ length bytes
some_byte [] n encodes = absurd encodes
some_byte (b ∷ bytes) n encodes = omega arith

-- the shortest encoding of a field has at most one byte more than its value
value_adds : (k : ℕ) (content : List ℕ) (value : FieldValue) → k < 15 → IsValue content value → encoded_len k (bytes_of_value value) ≤ 1 + length content
value_adds k content (Varint n) lt is = omega arith
value_adds k content (Fixed64 n) lt is = omega arith
value_adds k content (Fixed32 n) lt is = omega arith
value_adds k content (Bytes bytes) lt is =
    let one : encoded_len k (bytes ∷ []) ≡ length (bytes_field_encoding k bytes) + encoded_len k [] = sum_by-cons (λ bytes. length (bytes_field_encoding k bytes)) bytes [] in
    omega (arith, one, field-length k bytes lt, ap length is.parts, length-append is.front bytes, varint_encoding_shortest (length bytes) is.front is.varint)

-- a field adds a value under one of the two numbers, or under neither
field_adds : (f : FieldView) (content : List ℕ) → IsValue content f.value
    → encoded_len 1 (if f.number == 1 then bytes_of_value f.value else []) + encoded_len 2 (if f.number == 2 then bytes_of_value f.value else []) ≤ 1 + length content
field_adds f content is = elim (cases_Bool (f.number == 1)) [
  | inl one ↦ elim (cases_Bool (f.number == 2)) [
    | inl two ↦ let a : f.number ≡ 1 = eqb-true f.number 1 one in let b : f.number ≡ 2 = eqb-true f.number 2 two in absurd (omega arith)
    | inr not ↦ rw (one, not) (omega (arith, value_adds 1 content f.value (omega arith) is))
  ]
  | inr not ↦ elim (cases_Bool (f.number == 2)) [
    | inl two ↦ rw (not, two) (omega (arith, value_adds 2 content f.value (omega arith) is))
    | inr none ↦ rw (not, none) (omega arith)
  ]
]

message-size : (fs : List FieldView) (bytes : List ℕ) → AreFields bytes fs → encoded_len 1 (bytes_fields 1 fs) + encoded_len 2 (bytes_fields 2 fs) ≤ length bytes
message-size [] bytes are = omega arith
message-size (f ∷ fs) bytes are =
    let is = are.field in
    let parts : length bytes ≡ length is.tag + length (is.content ++ is.rest) = ap length is.parts ∙ length-append is.tag (is.content ++ is.rest) in
    let tag = some_byte is.tag _ is.tag_is.encoded in
    let others = message-size fs (drop are.len bytes) are.others in
    rw (sum_by-append (λ bytes. length (bytes_field_encoding 1 bytes)) (if f.number == 1 then bytes_of_value f.value else []) (bytes_fields 1 fs))
    (rw (sum_by-append (λ bytes. length (bytes_field_encoding 2 bytes)) (if f.number == 2 then bytes_of_value f.value else []) (bytes_fields 2 fs))
    (omega (arith, parts, is.len_is, tag, others, length-append is.content is.rest, length-drop are.len bytes, field_adds f is.content is.content_is)))

pub message-HasRoom : (message : List ℕ) → AreFields message (fields message) → HasRoom message
message-HasRoom message are = record { both = message-size (fields message) message are }
