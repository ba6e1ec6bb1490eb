-- Sums of sectors, one by one and of a window.
use Rattle.std.proofs.Common.{◌≡◌, Bool, true, false, leb, leb-true, ℕ, zero, suc, ◌+◌, ◌-◌, ◌<◌, ◌≤◌, min, List, [], ◌∷◌, ◌++◌, length, take, drop, get_or, refl, sym, ◌∙◌, ap, arith, append_assoc}
use Rattle.std.proofs.lemmas.List.{take_min, drop_min, drop_more, take-take, drop-take, drop-drop, take_all, length-drop, take_at, drop_at}
use Rattle.std.proofs.lemmas.Bool.{leb-false}
use Rattle.byte_lists.specs.Content.{part}
use Rattle.ckpt_stream.specs.Sums.{sum_of, row_offset, row_bytes_in, sums_in}

-- one sector of bytes, and one of the sums
sums_step : (bytes : List ℕ) (sector m end : ℕ) → end ≡ min (row_bytes_in sector) (length bytes)
    → sums_in (suc m) sector bytes ≡ sum_of (take end bytes) ∷ sums_in m (sector + 1) (drop end bytes)
sums_step bytes sector m end is =
    let t : take (row_bytes_in sector) bytes ≡ take end bytes = sym (take_min (row_bytes_in sector) bytes) ∙ ap (λ (n : ℕ). take n bytes) (sym is) in
    let d : drop (row_bytes_in sector) bytes ≡ drop end bytes = sym (drop_min (row_bytes_in sector) bytes) ∙ ap (λ (n : ℕ). drop n bytes) (sym is) in
    (λ i. sum_of (t i) ∷ sums_in m (sector + 1) (d i))

part_step : (sums : List ℕ) (i m : ℕ) → i < length sums → part i (suc m) sums ≡ get_or sums i 0 ∷ part (i + 1) m sums
part_step sums i m inside = ap (take (suc m)) (drop_more sums i 0 inside)

parts_same : (a b : ℕ) (xs ys : List ℕ) → a ∷ xs ≡ b ∷ ys → (a ≡ b) × (xs ≡ ys)
parts_same a b xs ys same = (cc, cc)

module _ (sums bytes rest : List ℕ) (sector left end sum : ℕ) (some : 0 < left) (is : end ≡ min (row_bytes_in sector) (length bytes)) (behind : rest ≡ drop end bytes)
    (summed : sum ≡ sum_of (take end bytes)) where
  more : left ≡ suc (left - 1)
  more = omega (arith, some)

  step : sums_in left sector bytes ≡ sum ∷ sums_in (left - 1) (sector + 1) rest
  step =
      ap (λ (n : ℕ). sums_in n sector bytes) more ∙ sums_step bytes sector (left - 1) end is
      ∙ (λ i. sym summed i ∷ sums_in (left - 1) (sector + 1) (sym behind i))

  -- the sums of a sector and of those after it are equal exactly where all are
  pub equal_up : sector < length sums → get_or sums sector 0 ≡ sum → part (sector + 1) (left - 1) sums ≡ sums_in (left - 1) (sector + 1) rest → part sector left sums ≡ sums_in left sector bytes
  equal_up inside head tail =
      ap (λ (n : ℕ). part sector n sums) more ∙ part_step sums sector (left - 1) inside ∙ (λ i. head i ∷ tail i) ∙ sym step

  pub equal_down : sector < length sums → part sector left sums ≡ sums_in left sector bytes → (get_or sums sector 0 ≡ sum) × (part (sector + 1) (left - 1) sums ≡ sums_in (left - 1) (sector + 1) rest)
  equal_down inside all =
      parts_same (get_or sums sector 0) sum (part (sector + 1) (left - 1) sums) (sums_in (left - 1) (sector + 1) rest)
      (sym (ap (λ (n : ℕ). part sector n sums) more ∙ part_step sums sector (left - 1) inside) ∙ all ∙ step)

  -- one sum more
  pub push_step : (olds news all : List ℕ) → news ≡ olds ++ sum ∷ [] → olds ++ sums_in left sector bytes ≡ all → news ++ sums_in (left - 1) (sector + 1) rest ≡ all
  push_step olds news all pushed before =
      ap (λ (l : List ℕ). l ++ sums_in (left - 1) (sector + 1) rest) pushed
      ∙ append_assoc olds (sum ∷ []) (sums_in (left - 1) (sector + 1) rest)
      ∙ ap (λ (l : List ℕ). olds ++ l) (sym step)
      ∙ before

-- ---- many sectors

cut_there : (a b : ℕ) (xs : List ℕ) (m : ℕ) → a + b ≤ m → take b (drop a (take m xs)) ≡ take b (drop a xs)
cut_there a b xs m inside =
    ap (λ (n : ℕ). take b (drop a (take n xs))) (let e : m ≡ a + (m - a) = omega (arith, inside) in e)
    ∙ ap (take b) (drop-take a (m - a) xs)
    ∙ take-take b (m - a) (drop a xs) (omega (arith, inside))

pub sums_length : (n sector : ℕ) (xs : List ℕ) → length (sums_in n sector xs) ≡ n
sums_length zero sector xs = refl
sums_length (suc n) sector xs = ap suc (sums_length n (sector + 1) (drop (row_bytes_in sector) xs))

-- the sums of sectors and of those after them
pub sums_split : (a b sector : ℕ) (xs : List ℕ) → sums_in (a + b) sector xs ≡ sums_in a sector xs ++ sums_in b (sector + a) (drop (row_offset (sector + a) - row_offset sector) xs)
sums_split zero b sector xs =
    let none : 0 + b ≡ b = omega arith in
    let here : sector ≡ sector + 0 = omega arith in
    let off : 0 ≡ row_offset (sector + 0) - row_offset sector = omega arith in
    ap (λ (n : ℕ). sums_in n sector xs) none ∙ (λ i. sums_in b (here i) (drop (off i) xs))
sums_split (suc a) b sector xs =
    let steps : suc a + b ≡ suc (a + b) = omega arith in
    let on : sector + 1 + a ≡ sector + suc a = omega arith in
    let off : row_bytes_in sector + (row_offset (sector + 1 + a) - row_offset (sector + 1)) ≡ row_offset (sector + suc a) - row_offset sector = omega arith in
    ap (λ (n : ℕ). sums_in n sector xs) steps
    ∙ ap (λ (l : List ℕ). sum_of (take (row_bytes_in sector) xs) ∷ l)
    (sums_split a b (sector + 1) (drop (row_bytes_in sector) xs)
    ∙ ap (λ (l : List ℕ). sums_in a (sector + 1) (drop (row_bytes_in sector) xs) ++ l)
    (ap (λ (l : List ℕ). sums_in b (sector + 1 + a) l) (drop-drop (row_offset (sector + 1 + a) - row_offset (sector + 1)) (row_bytes_in sector) xs)
    ∙ (λ i. sums_in b (on i) (drop (off i) xs))))

-- bytes after the sectors do not count
pub sums_cut : (n sector m : ℕ) (xs : List ℕ) → row_offset (sector + n) - row_offset sector ≤ m → sums_in n sector (take m xs) ≡ sums_in n sector xs
sums_cut zero sector m xs inside = refl
sums_cut (suc n) sector m xs inside =
    let here : row_bytes_in sector ≤ m = omega (arith, inside) in
    let t : take (row_bytes_in sector) (take m xs) ≡ take (row_bytes_in sector) xs = take-take (row_bytes_in sector) m xs here in
    let d : drop (row_bytes_in sector) (take m xs) ≡ take (m - row_bytes_in sector) (drop (row_bytes_in sector) xs) =
    ap (λ (k : ℕ). drop (row_bytes_in sector) (take k xs)) (let e : m ≡ row_bytes_in sector + (m - row_bytes_in sector) = omega (arith, here) in e) ∙ drop-take (row_bytes_in sector) (m - row_bytes_in sector) xs in
    (λ i. sum_of (t i) ∷ sums_in n (sector + 1) (d i))
    ∙ ap (λ (l : List ℕ). sum_of (take (row_bytes_in sector) xs) ∷ l) (sums_cut n (sector + 1) (m - row_bytes_in sector) (drop (row_bytes_in sector) xs) (omega (arith, inside)))

-- the sums of a window's bytes are those of the rows
by_end : (first count size m : ℕ) (rows : List ℕ) (b : Bool) → leb (row_offset (first + count)) size ≡ b → length rows ≡ size → m ≡ min (row_offset (first + count)) size - row_offset first
    → sums_in count first (take m (drop (row_offset first) rows)) ≡ sums_in count first (drop (row_offset first) rows)
by_end first count size m rows true test long is =
    sums_cut count first m (drop (row_offset first) rows) (omega (arith, leb-true (row_offset (first + count)) size test, is))
by_end first count size m rows false test long is =
    ap (sums_in count first) (take_all m (drop (row_offset first) rows) (omega (arith, leb-false (row_offset (first + count)) size test, is, long, length-drop (row_offset first) rows)))

pub window_sums : (first count size : ℕ) (rows window : List ℕ) → length rows ≡ size → length window ≡ min (row_offset (first + count)) size - row_offset first
    → take (length window) (drop (row_offset first) rows) ≡ window → sums_in count first window ≡ sums_in count first (drop (row_offset first) rows)
window_sums first count size rows window long is shows =
    ap (sums_in count first) (sym shows) ∙ by_end first count size (length window) rows (leb (row_offset (first + count)) size) refl long is

-- rows of which more sectors are summed
pub more_summed : (first count : ℕ) (sums rows window : List ℕ) → length sums ≡ first → sums ≡ sums_in first 0 rows → sums_in count first window ≡ sums_in count first (drop (row_offset first) rows)
    → sums ++ sums_in count first window ≡ sums_in (first + count) 0 rows
more_summed first count sums rows window long summed same =
    let at : first ≡ 0 + first = omega arith in
    let off : row_offset first ≡ row_offset (0 + first) - row_offset 0 = omega arith in
    (λ i. summed i ++ same i) ∙ ap (λ (l : List ℕ). sums_in first 0 rows ++ l) (λ i. sums_in count (at i) (drop (off i) rows)) ∙ sym (sums_split first count 0 rows)

-- a window of rows whose sums are known has these sums
pub part_summed : (first count rest : ℕ) (sums rows : List ℕ) → length sums ≡ first + (count + rest) → sums ≡ sums_in (length sums) 0 rows
    → part first count sums ≡ sums_in count first (drop (row_offset first) rows)
part_summed first count rest sums rows long summed =
    let at : first ≡ 0 + first = omega arith in
    let off : row_offset first ≡ row_offset (0 + first) - row_offset 0 = omega arith in
    let from = drop (row_offset first) rows in
    let tail = sums_in rest (first + count) (drop (row_offset (first + count) - row_offset first) from) in
    let there : sums ≡ sums_in first 0 rows ++ (sums_in count first from ++ tail) =
    summed ∙ ap (λ (n : ℕ). sums_in n 0 rows) long ∙ sums_split first (count + rest) 0 rows
    ∙ ap (λ (l : List ℕ). sums_in first 0 rows ++ l) ((λ i. sums_in (count + rest) (sym at i) (drop (sym off i) rows)) ∙ sums_split count rest first from) in
    ap (part first count) there
    ∙ ap (take count) (drop_at (sums_in first 0 rows) (sums_in count first from ++ tail) first (sums_length first 0 rows))
    ∙ take_at (sums_in count first from) tail count (sums_length count first from)
