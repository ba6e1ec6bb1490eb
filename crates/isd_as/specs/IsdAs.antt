-- An ISD-AS as 64 bits, and what a pattern with wildcards covers.
use Rattle.std.specs.Prelude.{◌≡◌, ℕ, ◌+◌, ◌*◌, ◌/◌, ◌%◌, ◌^◌, ◌⊎◌, Bool, ◌==◌, ◌&&◌, ◌||◌}
use Rattle.isd_as.specs.declared.number.IsdAs.{IsdAs}

-- The 64 bits of an ISD-AS: the upper 16 are the ISD, the lower 48 the AS.
abbrev pub isd_as_number : IsdAs → ℕ
isd_as_number ia = ia.isd * 2 ^ 48 + ia.asn

-- The ISD, in the upper 16 bits, or the AS is 0.
abbrev pub has_zero_part : ℕ → Bool
has_zero_part number = number / 2 ^ 48 == 0 || number % 2 ^ 48 == 0

-- A part of a pattern is 0, the wildcard, or equal to the number.
abbrev pub PartCovers : ℕ → ℕ → Type 0
PartCovers pattern n = (pattern ≡ 0) ⊎ (pattern ≡ n)

-- Both parts of the pattern cover those of the ISD-AS.
abbrev pub Covers : IsdAs → IsdAs → Type 0
Covers pattern ia = PartCovers pattern.isd ia.isd × PartCovers pattern.asn ia.asn

-- `PartCovers` as a test.
abbrev pub part_covers : ℕ → ℕ → Bool
part_covers pattern n = pattern == 0 || pattern == n

-- `Covers` as a test of the 64 bits of two ISD-AS numbers.
abbrev pub covers_number : ℕ → ℕ → Bool
covers_number pattern number = part_covers (pattern / 2 ^ 48) (number / 2 ^ 48) && part_covers (pattern % 2 ^ 48) (number % 2 ^ 48)
