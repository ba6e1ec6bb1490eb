-- Pieces: bytes that are padded in a window, and sectors of an area that a window has.
use Rattle.std.proofs.Common.{◌≡◌, ℕ, ◌+◌, ◌-◌, ◌*◌, ◌/◌, ◌≤◌, min, List, ◌++◌, length, take, drop, replicate, sym, ◌∙◌, ap, ap₂, arith, length-append, length-take, length-drop}
use Rattle.std.proofs.lemmas.List.{drop-drop, take-take, take_at, take_all, length-replicate}
use Rattle.std.proofs.lemmas.Slice.{take-put_mid}
use borrow.Rule.Slice.PartMut.{put_mid}
use Rattle.byte_lists.specs.Content.{part}
use Rattle.byte_lists.specs.Sectors.{padded}
use Rattle.byte_lists.proofs.Padding.{length-padded}
use Rattle.store_open.proofs.FirstSectors.{part_in_front}

front_size : (made : List ℕ) (size : ℕ) → size ≡ min (length made) 131072 → length (take 131072 made) ≡ size
front_size made size is = omega (arith, is, length-take 131072 made)

front_is : (made : List ℕ) (size : ℕ) → size ≡ min (length made) 131072 → take size made ≡ take 131072 made
front_is made size is = sym (take-take size 131072 made (omega (arith, is))) ∙ take_all size (take 131072 made) (omega (arith, front_size made size is))

-- how many bytes the front of what is made takes in whole sectors
pub padded_size : (made : List ℕ) (size : ℕ) → size ≡ min (length made) 131072 → (size + 511) / 512 * 512 ≡ length (padded (take 131072 made))
padded_size made size is = omega (arith, length-padded (take 131072 made), front_size made size is)

-- the front of what is made, copied to a window, with zeros after it
pub padded_in : (made copy window zeros : List ℕ) (size k : ℕ) → size ≡ min (length made) 131072 → copy ≡ take size made
    → zeros ≡ replicate ((size + 511) / 512 * 512 - size) 0
    → take ((size + 511) / 512 * 512) (put_mid size k (copy ++ drop size window) zeros) ≡ padded (take 131072 made)
padded_in made copy window zeros size k is copied filled =
    take-put_mid size k (copy ++ drop size window) zeros ((size + 511) / 512 * 512) (omega (arith, zeros_len)) (omega (arith, copy_len, length-append copy (drop size window)))
    ∙ ap₂ (λ (a b : List ℕ). a ++ b) (take_at copy (drop size window) size copy_len ∙ copied ∙ front_is made size is)
    (filled ∙ ap (λ (n : ℕ). replicate n 0) rest)
  where
    copy_len : length copy ≡ size
    copy_len = ap length (copied ∙ front_is made size is) ∙ front_size made size is

    zeros_len : length zeros ≡ (size + 511) / 512 * 512 - size
    zeros_len = ap length filled ∙ length-replicate {A = ℕ} ((size + 511) / 512 * 512 - size) 0

    rest : (size + 511) / 512 * 512 - size ≡ 512 * ((length (take 131072 made) + 511) / 512) - length (take 131072 made)
    rest = omega (arith, front_size made size is)

-- what is rewritten of a window are bytes of the rows of the area
pub rewritten_is : (window reads : List ℕ) (area first count size start to from : ℕ) → take (512 * count) window ≡ part (512 * (area + first)) (512 * count) reads
    → start ≤ to → to ≤ 512 * count → 512 * count ≤ length window → from + 32 ≡ 512 * first + start → 512 * first + to ≤ 32 + size
    → take (length (take (to - start) (drop start window))) (drop from (part (512 * area + 32) size reads)) ≡ take (to - start) (drop start window)
rewritten_is window reads area first count size start to from shows some fits room place inside =
    ap (λ (n : ℕ). part from n (part (512 * area + 32) size reads)) long
    ∙ part_in_front from (to - start) size (drop (512 * area + 32) reads) (omega (arith, place, inside, some))
    ∙ ap (take (to - start)) (drop-drop from (512 * area + 32) reads)
    ∙ ap (λ (at : ℕ). part at (to - start) reads) there
    ∙ sym (ap (take (to - start)) (drop-drop start (512 * (area + first)) reads))
    ∙ sym (part_in_front start (to - start) (512 * count) (drop (512 * (area + first)) reads) (omega (arith, some, fits)))
    ∙ sym (ap (part start (to - start)) shows)
    ∙ part_in_front start (to - start) (512 * count) window (omega (arith, some, fits))
  where
    long : length (take (to - start) (drop start window)) ≡ to - start
    long = omega (arith, length-take (to - start) (drop start window), length-drop start window, some, fits, room)

    there : 512 * area + 32 + from ≡ 512 * (area + first) + start
    there = omega (arith, place)
