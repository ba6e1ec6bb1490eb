-- Contents: lists of bytes, their parts, and contents of which a part is overwritten. Offsets and
-- lengths count bytes.
use Rattle.std.specs.Prelude.{◌≡◌, ℕ, ◌+◌, ◌-◌, ◌<◌, ◌≤◌, List, ◌++◌, length, take, drop, slice_index}

-- Each number of a list is a byte.
abbrev pub AreBytes : List ℕ → Type 0
AreBytes numbers = (i : ℕ) → slice_index numbers i < 256

-- The n bytes at an offset.
abbrev pub part : ℕ → ℕ → List ℕ → List ℕ
part at n content = take n (drop at content)

-- The content with these bytes written at an offset: the length does not change.
abbrev pub overwrite : ℕ → List ℕ → List ℕ → List ℕ
overwrite at bytes content = take at content ++ bytes ++ drop (at + length bytes) content

-- What holds of a content in which `bytes` were written at the offset `at`.
pub record AreOverwritten (at : ℕ) (bytes content : List ℕ) : Type 0 where
  -- The length is unchanged.
  pub size : length (overwrite at bytes content) ≡ length content
  -- The parts before the range are unchanged.
  pub before : (from n : ℕ) → from + n ≤ at → part from n (overwrite at bytes content) ≡ part from n content
  -- A part within the range is a part of the bytes that were written.
  pub within : (from n : ℕ) → at ≤ from → from + n ≤ at + length bytes → part from n (overwrite at bytes content) ≡ part (from - at) n bytes
  -- The parts after the range are unchanged.
  pub behind : (from n : ℕ) → at + length bytes ≤ from → part from n (overwrite at bytes content) ≡ part from n content
  -- Of two writes of the same range, the last one alone has an effect.
  pub twice : (last : List ℕ) → length last ≡ length bytes → overwrite at last (overwrite at bytes content) ≡ overwrite at last content
  -- The content is bytes again.
  pub are_bytes : AreBytes bytes → AreBytes content → AreBytes (overwrite at bytes content)
