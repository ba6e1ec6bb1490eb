-- The pieces that are appended are together the encoding of the whole.
use Rattle.std.proofs.Common.{◌≡◌, ℕ, ◌+◌, ◌*◌, ◌<◌, List, [], ◌∷◌, ◌++◌, length, arith, refl, sym, ap, ◌∙◌, append_assoc, length-append}
use Rattle.pw_wire.specs.Varint.{varint_encoding}
use Rattle.pw_wire.specs.Field.{bytes_field_encoding}
use Rattle.seg_core.specs.SegmentView.{EntryView}
use Rattle.seg_core.specs.Encoding.{field_head_encoding, optional_encoding, pieces_encoding, signed_encoding, as_entry_encoding}
use Rattle.seg_core.proofs.EncodedLengths.{varint-last}

-- a field is its head, followed by the bytes
field-head : (k len : ℕ) (bytes : List ℕ) → len ≡ length bytes → bytes_field_encoding k bytes ≡ field_head_encoding k len ++ bytes
unfolding bytes_field_encoding field_head_encoding
field-head k len bytes same =
    sym (append_assoc (varint_encoding (k * 8 + 2)) (varint_encoding (length bytes)) bytes)
    ∙ ap (λ n. (varint_encoding (k * 8 + 2) ++ varint_encoding n) ++ bytes) (sym same)

-- the head of a short field has two bytes
pub head-short : (k len : ℕ) → k < 15 → len < 128 → field_head_encoding k len ≡ (k * 8 + 2) ∷ len ∷ []
unfolding field_head_encoding
head-short k len lt small = rw (varint-last (k * 8 + 2) (omega arith), varint-last len small) refl

-- a field that was appended as its head and its bytes
pub field-put : (k len : ℕ) (bytes out headed done : List ℕ) → len ≡ length bytes → headed ≡ out ++ field_head_encoding k len → done ≡ headed ++ bytes
    → done ≡ out ++ bytes_field_encoding k bytes
field-put k len bytes out headed done same head rest =
    rest ∙ ap (λ xs. xs ++ bytes) head ∙ append_assoc out (field_head_encoding k len) bytes ∙ ap (λ xs. out ++ xs) (sym (field-head k len bytes same))

-- two pieces, one after the other
pub both-put : (first second out between done : List ℕ) → between ≡ out ++ first → done ≡ between ++ second → done ≡ out ++ (first ++ second)
both-put first second out between done one two = two ∙ ap (λ xs. xs ++ second) one ∙ append_assoc out first second

-- an entry is the head of its signed message, followed by its pieces
entry-head : (e : EntryView) (len : ℕ) → len ≡ length (signed_encoding e) → as_entry_encoding e ≡ field_head_encoding 1 len ++ pieces_encoding e
entry-head e len same =
    ap (λ xs. xs ++ optional_encoding 2 e.unsigned) (field-head 1 len (signed_encoding e) same)
    ∙ append_assoc (field_head_encoding 1 len) (signed_encoding e) (optional_encoding 2 e.unsigned)

-- an entry that was appended as two heads and its pieces
pub entry-put : (e : EntryView) (len signed : ℕ) (out headed opened done : List ℕ) → len ≡ length (as_entry_encoding e) → signed ≡ length (signed_encoding e)
    → headed ≡ out ++ field_head_encoding 2 len → opened ≡ headed ++ field_head_encoding 1 signed → done ≡ opened ++ pieces_encoding e
    → done ≡ out ++ bytes_field_encoding 2 (as_entry_encoding e)
entry-put e len signed out headed opened done same same_signed head one two =
    field-put 2 len (as_entry_encoding e) out headed done same head
    (both-put (field_head_encoding 1 signed) (pieces_encoding e) headed opened done one two ∙ ap (λ xs. headed ++ xs) (sym (entry-head e signed same_signed)))

-- how many bytes the head of a field has
pub head-length : (k len : ℕ) (bytes : List ℕ) → len ≡ length bytes → length (bytes_field_encoding k bytes) ≡ length (field_head_encoding k len) + length bytes
head-length k len bytes same = ap length (field-head k len bytes same) ∙ length-append (field_head_encoding k len) bytes

-- the two heads of an entry, and its pieces
pub entry-lengths : (e : EntryView) (len signed : ℕ) → len ≡ length (as_entry_encoding e) → signed ≡ length (signed_encoding e)
    → length (bytes_field_encoding 2 (as_entry_encoding e)) ≡ length (field_head_encoding 2 len) + (length (field_head_encoding 1 signed) + length (pieces_encoding e))
entry-lengths e len signed same same_signed =
    head-length 2 len (as_entry_encoding e) same
    ∙ ap (λ n. length (field_head_encoding 2 len) + n) (ap length (entry-head e signed same_signed) ∙ length-append (field_head_encoding 1 signed) (pieces_encoding e))
