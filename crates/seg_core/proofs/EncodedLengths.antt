-- The lengths of encodings in bytes.
use Rattle.std.proofs.Common.{◌≡◌, ℕ, zero, suc, false, ◌+◌, ◌*◌, ◌/◌, ◌%◌, ◌^◌, ◌<◌, ◌≤◌, List, [], ◌∷◌, length, refl, sym, ap, ◌∙◌, arith, inl, inr, length-append}
use Rattle.std.specs.Prelude.{◌==◌}
use Rattle.std.proofs.lemmas.Bool.{cases_lt}
use Rattle.pw_wire.specs.Varint.{encoding_within, varint_encoding}
use Rattle.pw_wire.specs.Field.{bytes_field_encoding}
use Rattle.pw_wire.proofs.Exports.{limit, encoding-last, encoding-goes_on, varint_encoding_is}
use Rattle.seg_core.specs.SegmentView.{EntryView}
use Rattle.seg_core.specs.Encoding.{bytes_encoding, optional_encoding, signed_encoding, as_entry_encoding}
use Rattle.seg_core.proofs.Sizes.{bytes_field-within}
use Rattle.seg_core.proofs.EncodedFields.{bytes-within}

-- ---- a varint

-- a small number has the same encoding where one more byte is allowed
within_more : (left n : ℕ) → n < limit left → encoding_within (suc left) n ≡ encoding_within left n
within_more zero n lt = encoding-last 1 n (omega arith) ∙ sym (encoding-last 0 n (omega arith))
within_more (suc left) n lt = elim (cases_lt n 128) [
  | inl small ↦ encoding-last (suc (suc left)) n small ∙ sym (encoding-last (suc left) n small)
  | inr large ↦
      encoding-goes_on (suc left) n large
      ∙ ap (λ bytes. (n % 128 + 128) ∷ bytes) (within_more left (n / 128) (omega arith))
      ∙ sym (encoding-goes_on left n large)
]

-- a byte for the low seven bits, and the others
varint-step : (n : ℕ) → 128 ≤ n → n < 2 ^ 64 → varint_encoding n ≡ (n % 128 + 128) ∷ varint_encoding (n / 128)
unfolding varint_encoding
varint-step n large lt = encoding-goes_on 8 n large ∙ ap (λ bytes. (n % 128 + 128) ∷ bytes) (sym (within_more 8 (n / 128) (omega arith)))

pub varint-last : (n : ℕ) → n < 128 → varint_encoding n ≡ n ∷ []
unfolding varint_encoding
varint-last n small = encoding-last 9 n small

-- a number with seven bits fewer has an encoding with one byte fewer
pub varint-length-step : (n : ℕ) → 128 ≤ n → n < 2 ^ 64 → length (varint_encoding n) ≡ length (varint_encoding (n / 128)) + 1
varint-length-step n large lt = omega (arith, ap length (varint-step n large lt))

pub varint-length-last : (n : ℕ) → n < 128 → length (varint_encoding n) ≡ 1
varint-length-last n small = ap length (varint-last n small)

pub varint-length-most : (n : ℕ) → n < 2 ^ 64 → length (varint_encoding n) ≤ 10
varint-length-most n lt = (varint_encoding_is n lt).short

-- ---- a field

-- the tag, the length and the bytes
pub field-length : (k : ℕ) (bytes : List ℕ) → k < 15 → length (bytes_field_encoding k bytes) ≡ 1 + length (varint_encoding (length bytes)) + length bytes
unfolding bytes_field_encoding
field-length k bytes lt =
    let tag = varint-length-last (k * 8 + 2) (omega arith) in
    simp length-append (omega arith)

-- ---- an entry

-- the parts of an encoded entry, none of which is longer than it
pub record EntryParts (e : EntryView) : Type 0 where
  pub whole : length (as_entry_encoding e) ≡ length (bytes_field_encoding 1 (signed_encoding e)) + length (optional_encoding 2 e.unsigned)
  pub within : length (signed_encoding e) ≤ length (bytes_field_encoding 1 (signed_encoding e))
  pub signed_message : length (signed_encoding e) ≡ length (bytes_encoding 1 e.signed) + length (bytes_encoding 2 e.signature)
  pub signed : length e.signed ≤ length (bytes_encoding 1 e.signed)
  pub signature : length e.signature ≤ length (bytes_encoding 2 e.signature)

pub entry-parts : (e : EntryView) → EntryParts e
entry-parts e = record {
  whole = length-append (bytes_field_encoding 1 (signed_encoding e)) (optional_encoding 2 e.unsigned);
  within = bytes_field-within 1 (signed_encoding e);
  signed_message = length-append (bytes_encoding 1 e.signed) (bytes_encoding 2 e.signature);
  signed = bytes-within 1 e.signed;
  signature = bytes-within 2 e.signature;
}

-- ---- what a test decides

pub bytes-some : (k : ℕ) (bytes : List ℕ) → (length bytes == 0) ≡ false → bytes_encoding k bytes ≡ bytes_field_encoding k bytes
bytes-some k [] differs = absurd cc
bytes-some k (b ∷ bytes) differs = refl
