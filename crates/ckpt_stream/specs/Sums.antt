-- Sums of the bytes of an area's rows, one for each sector, by which a second reading is compared
-- with the first.
use Rattle.std.specs.Prelude.{◌≡◌, ℕ, zero, suc, ◌+◌, ◌-◌, ◌*◌, ◌^◌, ◌%◌, List, [], ◌∷◌, length, take, drop, min}
use Rattle.byte_lists.specs.declared.format.TheConstants.{SECTOR}
use Rattle.store_layout.specs.declared.format.TheConstants.{BEFORE_ROWS}

-- A sum with one more byte. The factor is odd, so that two contents that differ in one byte have
-- different sums.
abbrev pub sum_with : ℕ → ℕ → ℕ
sum_with sum byte = (sum * 6364136223846793005 % 2 ^ 64 + byte) % 2 ^ 64

-- A sum with more bytes.
abbrev pub sum_more : ℕ → List ℕ → ℕ
sum_more sum [] = sum
sum_more sum (byte ∷ bytes) = sum_more (sum_with sum byte) bytes

-- The sum of bytes.
abbrev pub sum_of : List ℕ → ℕ
sum_of bytes = sum_more 0 bytes

-- The offset of the first byte of a sector among the bytes of the rows, which begin after the 32
-- bytes of the front.
abbrev pub row_offset : ℕ → ℕ
row_offset sector = SECTOR * sector - BEFORE_ROWS

-- The number of bytes of the rows in a sector, where the rows go on after it.
abbrev pub row_bytes_in : ℕ → ℕ
row_bytes_in sector = row_offset (sector + 1) - row_offset sector

-- The sums of this number of sectors, from a sector on, whose bytes of the rows these are.
abbrev pub sums_in : ℕ → ℕ → List ℕ → List ℕ
sums_in zero sector bytes = []
sums_in (suc n) sector bytes = sum_of (take (row_bytes_in sector) bytes) ∷ sums_in n (sector + 1) (drop (row_bytes_in sector) bytes)

-- The bytes of the rows, which have `size` bytes, in a window that has sectors from a sector on.
abbrev pub rows_in_window : ℕ → ℕ → ℕ → List ℕ → List ℕ
rows_in_window size first count window = take (min (row_offset (first + count)) size - row_offset first) (drop (BEFORE_ROWS - SECTOR * first) window)

-- The sums of rows' bytes are these.
abbrev pub AreSummed : List ℕ → List ℕ → Type 0
AreSummed sums rows = sums ≡ sums_in (length sums) 0 rows
