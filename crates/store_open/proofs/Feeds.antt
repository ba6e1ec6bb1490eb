-- Rows that are read from a device, piece by piece.
use Rattle.std.proofs.Common.{◌≡◌, ℕ, ◌+◌, ◌-◌, ◌*◌, ◌/◌, ◌≤◌, List, ◌++◌, length, take, drop, Err, refl, sym, ◌∙◌, ap, arith}
use Rattle.std.proofs.lemmas.List.{length-append, length-take, length-drop, drop-drop}
use Rattle.std.proofs.Math.Seq.{take-add}
use Rattle.std.specs.Prelude.{◌≢◌}
use Rattle.byte_lists.specs.Content.{part}
use Rattle.path_records.specs.RowRecord.{rows_decoding}
use Rattle.ckpt_pair.specs.declared.error.PairError.{PairError}
use Rattle.ckpt_pair.specs.declared.error.PairError.TheVariants as pair
use Rattle.ckpt_pair.specs.Reading.{AreNoRows}
use Rattle.ckpt_pair.specs.Rows.{as_counted}
use Rattle.store_open.specs.Refusals.{error_of_pair}
use Rattle.store_open.specs.Rows.{FeedsSo}
use Rattle.store_open.proofs.FirstSectors.{part_in_front}

-- a part in two
pub split_part : (at n m : ℕ) (xs : List ℕ) → part at (n + m) xs ≡ part at n xs ++ part (at + n) m xs
split_part at n m xs = take-add n m (drop at xs) ∙ ap (λ (list : List ℕ). part at n xs ++ take m list) (drop-drop n at xs)

-- the bytes that were fed, and the part of a piece that is fed after them
fed_more : (reads now reader piece items : List ℕ) (area fed count to : ℕ) → 32 ≤ fed → fed ≤ 512 * (fed / 512) + to → to ≤ 512 * count
    → reader ≡ part (512 * area + 32) (fed - 32) reads → now ≡ reads → piece ≡ items → items ≡ part (512 * (area + fed / 512)) (512 * count) now
    → reader ++ take (to - (fed - 512 * (fed / 512))) (drop (fed - 512 * (fed / 512)) piece) ≡ part (512 * area + 32) (512 * (fed / 512) + to - 32) reads
fed_more reads now reader piece items area fed count to some forward fits reader_is same piece_is items_are =
    (λ i. reader_is i ++ take m (drop from ((piece_is ∙ items_are ∙ ap (part (512 * (area + fed / 512)) (512 * count)) same) i)))
    ∙ ap (λ (list : List ℕ). part (512 * area + 32) (fed - 32) reads ++ list)
    (part_in_front from m (512 * count) (drop (512 * (area + fed / 512)) reads) (omega (arith, fits, forward)) ∙ ap (take m) (drop-drop from (512 * (area + fed / 512)) reads)
    ∙ ap (λ (at : ℕ). part at m reads) there)
    ∙ sym (split_part (512 * area + 32) (fed - 32) m reads)
    ∙ ap (λ (n : ℕ). part (512 * area + 32) n reads) whole
  where
    from : ℕ
    from = fed - 512 * (fed / 512)

    m : ℕ
    m = to - (fed - 512 * (fed / 512))

    there : 512 * (area + fed / 512) + (fed - 512 * (fed / 512)) ≡ 512 * area + 32 + (fed - 32)
    there = omega (arith, some)

    whole : (fed - 32) + (to - (fed - 512 * (fed / 512))) ≡ 512 * (fed / 512) + to - 32
    whole = omega (arith, some, forward)

-- the same of a piece that was read over the front of a buffer
pub fed_over : (reads now reader piece : List ℕ) (area fed count to size : ℕ) → 32 ≤ fed → fed ≤ 512 * (fed / 512) + to → to ≤ 512 * count
    → reader ≡ part (512 * area + 32) (fed - 32) reads → now ≡ reads → piece ≡ part (512 * (area + fed / 512)) size now → size ≡ 512 * count
    → reader ++ take (to - (fed - 512 * (fed / 512))) (drop (fed - 512 * (fed / 512)) piece) ≡ part (512 * area + 32) (512 * (fed / 512) + to - 32) reads
fed_over reads now reader piece area fed count to size some forward fits reader_is same piece_is whole =
    fed_more reads now reader piece piece area fed count to some forward fits reader_is same refl (piece_is ∙ ap (λ (n : ℕ). part (512 * (area + fed / 512)) n now) whole)

-- a buffer is as long as before once a piece was read over its front
pub buffer_kept : (most n : ℕ) (piece items : List ℕ) → n ≡ length items → most ≤ length items → most ≤ length (take n (piece ++ drop (length piece) items))
buffer_kept most n piece items is fits =
    omega (arith, is, fits, length-take n (piece ++ drop (length piece) items), length-append piece (drop (length piece) items), length-drop (length piece) items)

-- rows that are refused when this number of their bytes is fed are refused as a whole
pub feed_refused : (e : PairError) (bytes : List ℕ) (at n size : ℕ) (reads : List ℕ) → n ≤ size → bytes ≡ part at n reads → (e ≢ pair.NoMemory → (e ≡ pair.BadCheckpoint) × AreNoRows bytes)
    → FeedsSo (part at size reads) (Err (error_of_pair e))
feed_refused pair.NoMemory bytes at n size reads few is refused = tt
feed_refused pair.NoHalf bytes at n size reads few is refused = absurd (let so = (refused (λ same. cc)).0 in cc)
feed_refused pair.SameEpoch bytes at n size reads few is refused = absurd (let so = (refused (λ same. cc)).0 in cc)
feed_refused pair.BadCheckpoint bytes at n size reads few is refused = (
  refl,
  λ count.
      let whole : n + (size - n) ≡ size = omega (arith, few) in
      let all : part at size reads ≡ bytes ++ part (at + n) (size - n) reads =
      ap (λ (k : ℕ). part at k reads) (sym whole) ∙ split_part at n (size - n) reads ∙ ap (λ (list : List ℕ). list ++ part (at + n) (size - n) reads) (sym is) in
      ap (λ (list : List ℕ). as_counted count (rows_decoding list)) all ∙ (refused (λ same. cc)).1 count (part (at + n) (size - n) reads),
)
feed_refused pair.SealedNewer bytes at n size reads few is refused = absurd (let so = (refused (λ same. cc)).0 in cc)
feed_refused (pair.NewerFormat version) bytes at n size reads few is refused = absurd (let so = (refused (λ same. cc)).0 in cc)
