-- Big-endian numbers, encoded and read again. For the crates above.
use Rattle.std.proofs.Common.{◌≡◌, ℕ, ◌+◌, ◌^◌, ◌<◌, ◌≤◌, List, ◌++◌, length, refl, ◌∙◌, ap}
use Rattle.std.specs.Int.{w32, w64, to_be_bytes, from_be_bytes}
use Rattle.std.proofs.lemmas.List.{drop_at, take_at}
use Rattle.std.proofs.lemmas.Nat.{be_bytes_4, be_bytes_8, from_be_bytes-to_be_bytes_4, from_be_bytes-to_be_bytes_8}
use Rattle.byte_lists.specs.Content.{part, AreBytes}
use Rattle.byte_lists.specs.Numbers.{four_at, eight_at}
use Rattle.byte_lists.proofs.Contents.{length-part, bytes-part}

-- a part that is between others
pub part_between : (at n : ℕ) (before bytes after : List ℕ) → length before ≡ at → length bytes ≡ n → part at n (before ++ (bytes ++ after)) ≡ bytes
part_between at n before bytes after first size = ap (λ (list : List ℕ). part 0 n list) (drop_at before (bytes ++ after) at first) ∙ take_at bytes after n size

pub four_at-encoded : (n at : ℕ) (before after : List ℕ) → n < 2 ^ 32 → length before ≡ at → four_at at (before ++ (to_be_bytes w32 n ++ after)) ≡ n
four_at-encoded n at before after small first = ap (from_be_bytes w32) (part_between at 4 before (to_be_bytes w32 n) after first refl) ∙ from_be_bytes-to_be_bytes_4 n small

pub eight_at-encoded : (n at : ℕ) (before after : List ℕ) → n < 2 ^ 64 → length before ≡ at → eight_at at (before ++ (to_be_bytes w64 n ++ after)) ≡ n
eight_at-encoded n at before after small first = ap (from_be_bytes w64) (part_between at 8 before (to_be_bytes w64 n) after first refl) ∙ from_be_bytes-to_be_bytes_8 n small

-- the four or eight bytes at an offset are the big-endian encoding of the number that is read there
pub encoded-four_at : (at : ℕ) (bytes : List ℕ) → AreBytes bytes → at + 4 ≤ length bytes → to_be_bytes w32 (four_at at bytes) ≡ part at 4 bytes
encoded-four_at at bytes each inside = be_bytes_4 (part at 4 bytes) (four_at at bytes) (length-part at 4 bytes inside) (bytes-part at 4 bytes each) refl

pub encoded-eight_at : (at : ℕ) (bytes : List ℕ) → AreBytes bytes → at + 8 ≤ length bytes → to_be_bytes w64 (eight_at at bytes) ≡ part at 8 bytes
encoded-eight_at at bytes each inside = be_bytes_8 (part at 8 bytes) (eight_at at bytes) (length-part at 8 bytes inside) (bytes-part at 8 bytes each) refl
