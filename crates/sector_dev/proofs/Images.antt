-- The images that a stop may leave, before a call and after it, and the bytes that are clean. This
-- crate and the crates above it cite these lemmas.
use Rattle.std.proofs.Common.{◌≡◌, ◌⊎◌, inl, inr, ℕ, ◌+◌, ◌-◌, ◌≤◌, List, [], ◌∷◌, length, get_or, refl, sym, ◌∙◌, ap, subst, arith}
use Rattle.std.proofs.lemmas.Bool.{cases_lt}
use Rattle.std.proofs.lemmas.List.Elements.{All-nil, All-cons, All-head, All-tail}
use Rattle.byte_lists.specs.Content.{AreBytes, part, overwrite}
use Rattle.sector_dev.specs.Disk.{ByteRange, Moment, History, after_write, after_sync}
use Rattle.sector_dev.specs.Image.{IsClean, IsCleanPart, IsImage, EveryImage}
use Rattle.byte_lists.proofs.Contents.{length-overwrite, overwrite_before, overwrite_within, overwrite_behind, length-part, get_or-part, same_part, same_content, overwrite_same, overwrite_twice, bytes_overwrite, bytes-part}

-- a range does not contain this byte
abbrev pub IsBeside : ℕ → ByteRange → Type 0
IsBeside i span = span.start ≤ i → span.start + span.len ≤ i

-- where there is no range, nothing is dirty
pub clean_none : (i : ℕ) → IsClean [] i
clean_none i = All-nil (IsBeside i)

pub clean_part_none : (at n : ℕ) → IsCleanPart [] at n
clean_part_none at n i from to = clean_none i

-- one more range leaves clean the bytes that it does not contain
pub clean_beside : (start len : ℕ) (dirty : List ByteRange) (i : ℕ) → (start ≤ i → start + len ≤ i) → IsClean dirty i → IsClean (record { start = start; len = len } ∷ dirty) i
clean_beside start len dirty i beside clean = All-cons (IsBeside i) (record { start = start; len = len }) dirty beside clean

pub clean_part_beside : (start len : ℕ) (dirty : List ByteRange) (at n : ℕ) → (start + len ≤ at) ⊎ (at + n ≤ start) → IsCleanPart dirty at n → IsCleanPart (record { start = start; len = len } ∷ dirty) at n
clean_part_beside start len dirty at n (inl before) clean = λ i from to. clean_beside start len dirty i (λ _. omega arith) (clean i from to)
clean_part_beside start len dirty at n (inr behind) clean = λ i from to. clean_beside start len dirty i (λ met. absurd (omega arith)) (clean i from to)

-- a part of a clean part
pub clean_part_in : (dirty : List ByteRange) (at n from m : ℕ) → at ≤ from → from + m ≤ at + n → IsCleanPart dirty at n → IsCleanPart dirty from m
clean_part_in dirty at n from m low high clean i here to = clean i (omega arith) (omega arith)

-- bytes that are clean with one more range are clean without it
pub clean_before : (start len : ℕ) (dirty : List ByteRange) (i : ℕ) → IsClean (record { start = start; len = len } ∷ dirty) i → (start ≤ i → start + len ≤ i) × IsClean dirty i
clean_before start len dirty i clean = (
  All-head (IsBeside i) (record { start = start; len = len }) dirty clean,
  All-tail (IsBeside i) (record { start = start; len = len }) dirty clean,
)

-- the bytes that reads return are an image
pub image_of_reads : (moment : Moment) → AreBytes moment.reads → IsImage moment moment.reads
image_of_reads moment bytes = record { size = refl; bytes = bytes; clean = λ i _. refl }

-- where nothing is dirty, these bytes are the only image
pub image_is_reads : (moment : Moment) (content : List ℕ) → moment.dirty ≡ [] → IsImage moment content → content ≡ moment.reads
image_is_reads moment content none image =
    same_content content moment.reads image.size
    (λ i below. image.clean i (subst (λ (dirty : List ByteRange). IsClean dirty i) (sym none) (clean_none i)))

-- in a clean part an image has the bytes that reads return
pub image_part : (moment : Moment) (content : List ℕ) (at n : ℕ) → IsImage moment content → IsCleanPart moment.dirty at n → part at n content ≡ part at n moment.reads
image_part moment content at n image clean = same_part at n content moment.reads image.size (λ i from to. image.clean i (clean i from to))

-- a sync that succeeds only removes images
pub image_synced : (history : History) (content : List ℕ) → IsImage (after_sync history).now content → IsImage history.now content
image_synced history content image = record { size = image.size; bytes = image.bytes; clean = λ i _. image.clean i (clean_none i) }

pub image_after_sync : (history : History) (content : List ℕ) → IsImage (after_sync history).now content → content ≡ history.now.reads
image_after_sync history content image = image_is_reads (after_sync history).now content refl image

-- an image of one moment is one of another, where what is clean in the other is clean in the first
-- and has the same bytes
pub image_of_other : (one other : Moment) (content : List ℕ) → length one.reads ≡ length other.reads → ((i : ℕ) → IsClean other.dirty i → IsClean one.dirty i × (get_or one.reads i 0 ≡ get_or other.reads i 0)) → IsImage one content
    → IsImage other content
image_of_other one other content size stays image = record {
  size = image.size ∙ size;
  bytes = image.bytes;
  clean = λ i clean. let both = stays i clean in image.clean i both.0 ∙ both.1;
}

-- a write changes no byte beside its range
pub overwrite_beside : (at : ℕ) (landed content : List ℕ) (i : ℕ) → at + length landed ≤ length content → (at ≤ i → at + length landed ≤ i) → get_or (overwrite at landed content) i 0 ≡ get_or content i 0
overwrite_beside at landed content i inside beside = elim (cases_lt i at) [
  | inl early ↦ overwrite_before at landed content i (omega arith) early
  | inr from ↦ overwrite_behind at landed content i inside (beside from)
]

-- an image before a write is an image after it
pub image_before_write : (at : ℕ) (landed reads content : List ℕ) (dirty : List ByteRange) → at + length landed ≤ length reads → IsImage (record { reads = reads; dirty = dirty }) content
    → IsImage (record { reads = overwrite at landed reads; dirty = record { start = at; len = length landed } ∷ dirty }) content
image_before_write at landed reads content dirty inside image =
    image_of_other (record { reads = reads; dirty = dirty }) (record { reads = overwrite at landed reads; dirty = record { start = at; len = length landed } ∷ dirty }) content (sym (length-overwrite at landed reads inside))
    (λ i clean. let both = clean_before at (length landed) dirty i clean in (both.1, sym (overwrite_beside at landed reads i inside both.0))) image

-- an image after a write is an image from before it, with other bytes in the range
record IsTorn (history : History) (at n : ℕ) (content : List ℕ) : Type 0 where
  pub before : List ℕ
  pub image : IsImage history.now before
  pub size : length before ≡ length content
  pub is : content ≡ overwrite at (part at n content) before

image_written : (history : History) (at : ℕ) (landed : List ℕ) (content : List ℕ) → at + length landed ≤ length history.now.reads → AreBytes history.now.reads → IsImage (after_write at landed history).now content
    → IsTorn history at (length landed) content
image_written history at landed content inside bytes image = record {
  before = before;
  image = record {
    size = length-overwrite at old content (omega (arith, size, old_size)) ∙ size;
    bytes = bytes_overwrite at old content (omega (arith, size, old_size)) (bytes-part at (length landed) reads bytes) image.bytes;
    clean = λ i clean. entry i clean;
  };
  size = length-overwrite at old content (omega (arith, size, old_size));
  is = sym (overwrite_same at (length landed) content (omega (arith, size)))
      ∙ sym (overwrite_twice at old torn content (omega (arith, size, old_size)) (torn_size ∙ sym old_size));
}
  where
    reads : List ℕ
    reads = history.now.reads

    size : length content ≡ length reads
    size = image.size ∙ length-overwrite at landed reads inside

    old : List ℕ
    old = part at (length landed) reads

    old_size : length old ≡ length landed
    old_size = length-part at (length landed) reads inside

    torn : List ℕ
    torn = part at (length landed) content

    torn_size : length torn ≡ length landed
    torn_size = length-part at (length landed) content (omega (arith, size))

    before : List ℕ
    before = overwrite at old content

    clean_now : (i : ℕ) → (at ≤ i → at + length landed ≤ i) → IsClean history.now.dirty i → get_or content i 0 ≡ get_or (overwrite at landed reads) i 0
    clean_now i beside clean = image.clean i (clean_beside at (length landed) history.now.dirty i beside clean)

    entry : (i : ℕ) → IsClean history.now.dirty i → get_or before i 0 ≡ get_or reads i 0
    entry i clean = elim (cases_lt i at) [
      | inl early ↦
          overwrite_before at old content i (omega (arith, size)) early ∙ clean_now i (λ from. absurd (omega arith)) clean
          ∙ overwrite_before at landed reads i (omega arith) early
      | inr from ↦ elim (cases_lt i (at + length landed)) [
        | inl to ↦
            let index : at + (i - at) ≡ i = omega arith in
            overwrite_within at old content i (omega (arith, size)) from (omega (arith, old_size))
            ∙ get_or-part at (length landed) reads (i - at) (omega arith) ∙ ap (λ (j : ℕ). get_or reads j 0) index
        | inr behind ↦
            overwrite_behind at old content i (omega (arith, size, old_size)) (omega (arith, old_size))
            ∙ clean_now i (λ _. behind) clean ∙ overwrite_behind at landed reads i inside behind
      ]
    ]

-- If each content with P has Q once it is overwritten in the range by any bytes, then each image
-- after the write has Q.
pub every_written : (P Q : List ℕ → Type 0) (history : History) (at : ℕ) (landed : List ℕ) → at + length landed ≤ length history.now.reads → AreBytes history.now.reads → EveryImage history.now P
    → ((content torn : List ℕ) → length content ≡ length history.now.reads → length torn ≡ length landed → P content → Q (overwrite at torn content)) → EveryImage (after_write at landed history).now Q
every_written P Q history at landed inside bytes each step content image =
    let torn = image_written history at landed content inside bytes image in
    let long : length content ≡ length history.now.reads = image.size ∙ length-overwrite at landed history.now.reads inside in
    let size : length (part at (length landed) content) ≡ length landed = length-part at (length landed) content (omega (arith, long)) in
    subst Q (sym torn.is) (step torn.before (part at (length landed) content) torn.image.size size (each torn.before torn.image))
