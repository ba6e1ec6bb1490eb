-- Varints, as protobuf's encoding page defines them:
-- https://protobuf.dev/programming-guides/encoding/#varints
use Rattle.std.specs.Prelude.{◌≡◌, ℕ, zero, suc, ◌+◌, ◌*◌, ◌/◌, ◌%◌, ◌-◌, ◌^◌, ◌<◌, ◌≤◌, List, [], ◌∷◌, ◌++◌, length, take, slice_index, Result, Ok, Err, nat_lt, if◌then◌else◌}
use Rattle.std.specs.List.{AllByRecursion}
use Rattle.pw_wire.specs.declared.error.WireError.{WireError}
use Rattle.pw_wire.specs.declared.error.WireError.TheVariants.{Truncated, LongVarint, BadField, GroupWire, BadWire}
use Rattle.pw_wire.specs.Decoding.{◌>>=◌}

-- ---- what a varint is

-- A continuation byte is 128 plus the low seven bits of the number; the bytes after it encode the
-- bits above.
pub record IsContinuationByte (EncodesAbove : ℕ → Type 0) (byte n : ℕ) : Type 0 where
  pub low : ℕ
  pub high : ℕ
  pub byte_is : byte ≡ 128 + low
  pub seven_bits : low < 128
  pub number_is : n ≡ low + 128 * high
  pub above : EncodesAbove high

-- Seven bits a byte, the lowest first: a byte below 128 is the last byte and has its own value, and
-- each byte before it is a continuation byte.
abbrev pub EncodesNumber : List ℕ → ℕ → Type 0
EncodesNumber [] n = ⊥
EncodesNumber (b ∷ []) n = (b < 128) × (n ≡ b)
EncodesNumber (b ∷ c ∷ bytes) n = IsContinuationByte (λ high. EncodesNumber (c ∷ bytes) high) b n

-- A varint has at most ten bytes, and a number of 64 bits. Zeros at the top are allowed.
pub record IsVarint (bytes : List ℕ) (n : ℕ) : Type 0 where
  pub encoded : EncodesNumber bytes n
  pub short : length bytes ≤ 10
  pub fits : n < 2 ^ 64

-- Each byte is a continuation byte.
abbrev pub AllGoOn : List ℕ → Type 0
AllGoOn bytes = AllByRecursion (λ b. 128 ≤ b) bytes

-- Why the bytes begin with no varint: the bytes end too early, or the tenth byte is above 1.
abbrev pub IsVarintFault : List ℕ → WireError → Type 0
IsVarintFault bytes Truncated = AllGoOn bytes × (length bytes < 10)
IsVarintFault bytes LongVarint = AllGoOn (take 9 bytes) × (1 < slice_index bytes 9)
IsVarintFault bytes BadField = ⊥
IsVarintFault bytes GroupWire = ⊥
IsVarintFault bytes BadWire = ⊥

-- Bytes that begin with the varint of a number, followed by the rest.
pub record BeginsWithVarint (bytes : List ℕ) (n : ℕ) (rest : List ℕ) : Type 0 where
  pub front : List ℕ
  pub varint : IsVarint front n
  pub parts : bytes ≡ front ++ rest

-- ---- reading one

-- Reading with `left` bytes allowed before the last possible one: the number, and how many bytes it
-- took.
unfoldable pub varint_within : ℕ → List ℕ → Result (ℕ × ℕ) WireError
varint_within left [] = Err Truncated
varint_within zero (b ∷ bytes) = if nat_lt b 2 then Ok (b, 1) else Err LongVarint
varint_within (suc left) (b ∷ bytes) = if nat_lt b 128 then Ok (b, 1) else do
  high ← varint_within left bytes
  Ok (b - 128 + 128 * high.0, suc high.1)

-- The varint at the front, and its length.
abbrev pub varint_at : List ℕ → Result (ℕ × ℕ) WireError
varint_at bytes = varint_within 9 bytes

-- ---- the shortest encoding

-- The shortest encoding, with `left` bytes allowed before the last one.
unfoldable pub encoding_within : ℕ → ℕ → List ℕ
encoding_within zero n = n ∷ []
encoding_within (suc left) n = if nat_lt n 128 then n ∷ [] else ((n % 128 + 128) ∷ encoding_within left (n / 128))

-- The shortest encoding of a number below 2 ^ 64.
unfoldable pub varint_encoding : ℕ → List ℕ
varint_encoding n = encoding_within 9 n
