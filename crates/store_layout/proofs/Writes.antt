-- The regions do not overlap, and a write changes no other region.
use Rattle.std.proofs.Common.{◌≡◌, ◌⊎◌, inl, inr, ℕ, ◌+◌, ◌-◌, ◌*◌, ◌<◌, ◌≤◌, List, length, get_or, refl, sym, ◌∙◌, ap, arith}
use Rattle.byte_lists.specs.Content.{part, overwrite}
use Rattle.std.proofs.lemmas.Bool.{cases_lt}
use Rattle.byte_lists.proofs.Contents.{length-overwrite, length-part, get_or-part, overwrite_before, overwrite_within, overwrite_behind, same_content, part_below, part_above}
use Rattle.store_layout.specs.declared.half.Half.{Half}
use Rattle.store_layout.specs.declared.half.Half.TheVariants.{First, Second}
use Rattle.store_layout.specs.Layout.{Geometry, half_sectors, area_at, image_sectors, Piece, Area, Gate, Journal, Region, FirstSector, InHalf, region_at, region_sectors, region_end, region_of}
use Rattle.store_layout.specs.RegionLaws.{RegionsAreApart, RegionsAreInside, WritesLeaveRegionsApart, WritesLeaveOtherRegions, WritesChangeTheirRegion}

-- a region lies within its half
record IsInHalf (geometry : Geometry) (half : Half) (piece : Piece) : Type 0 where
  from : area_at geometry half ≤ region_at geometry (InHalf half piece)
  to : region_end geometry (InHalf half piece) ≤ area_at geometry half + half_sectors geometry

in_half : (geometry : Geometry) (half : Half) (piece : Piece) → IsInHalf geometry half piece
in_half geometry half Area = record { from = omega arith; to = omega arith }
in_half geometry half Gate = record { from = omega arith; to = omega arith }
in_half geometry half Journal = record { from = omega arith; to = omega arith }

-- two regions of one half do not overlap
pieces_apart : (geometry : Geometry) (half : Half) (one two : Piece) → (one ≡ two → ⊥)
    → (region_end geometry (InHalf half one) ≤ region_at geometry (InHalf half two)) ⊎ (region_end geometry (InHalf half two) ≤ region_at geometry (InHalf half one))
pieces_apart geometry half Area Area others = absurd (others refl)
pieces_apart geometry half Area Gate others = inl (omega arith)
pieces_apart geometry half Area Journal others = inl (omega arith)
pieces_apart geometry half Gate Area others = inr (omega arith)
pieces_apart geometry half Gate Gate others = absurd (others refl)
pieces_apart geometry half Gate Journal others = inl (omega arith)
pieces_apart geometry half Journal Area others = inr (omega arith)
pieces_apart geometry half Journal Gate others = inr (omega arith)
pieces_apart geometry half Journal Journal others = absurd (others refl)

first_at : (geometry : Geometry) (half : Half) → 1 ≤ area_at geometry half
first_at geometry First = omega arith
first_at geometry Second = omega arith

pub regions_apart : RegionsAreApart
regions_apart geometry FirstSector FirstSector others = absurd (others refl)
regions_apart geometry FirstSector (InHalf half piece) others = inl (omega (arith, first_at geometry half, in_half geometry half piece))
regions_apart geometry (InHalf half piece) FirstSector others = inr (omega (arith, first_at geometry half, in_half geometry half piece))
regions_apart geometry (InHalf First one) (InHalf First two) others = pieces_apart geometry First one two (λ same. others (ap (InHalf First) same))
regions_apart geometry (InHalf First one) (InHalf Second two) others = inl (omega (arith, in_half geometry First one, in_half geometry Second two))
regions_apart geometry (InHalf Second one) (InHalf First two) others = inr (omega (arith, in_half geometry Second one, in_half geometry First two))
regions_apart geometry (InHalf Second one) (InHalf Second two) others = pieces_apart geometry Second one two (λ same. others (ap (InHalf Second) same))

half_in_image : (geometry : Geometry) (half : Half) → area_at geometry half + half_sectors geometry ≤ image_sectors geometry
half_in_image geometry First = omega arith
half_in_image geometry Second = omega arith

pub regions_inside : RegionsAreInside
regions_inside geometry FirstSector = omega arith
regions_inside geometry (InHalf half piece) = omega (arith, in_half geometry half piece, half_in_image geometry half)

pub writes_leave_apart : WritesLeaveRegionsApart
writes_leave_apart geometry region image at bytes inside (inl before) =
    part_above at bytes image (512 * region_at geometry region) (512 * region_sectors geometry region) inside before
writes_leave_apart geometry region image at bytes inside (inr behind) =
    part_below at bytes image (512 * region_at geometry region) (512 * region_sectors geometry region) inside (omega arith)

by_order : (geometry : Geometry) (written region : Region) (image : List ℕ) (at : ℕ) (bytes : List ℕ) → at + length bytes ≤ length image
    → 512 * region_at geometry written ≤ at → at + length bytes ≤ 512 * region_end geometry written
    → (region_end geometry region ≤ region_at geometry written) ⊎ (region_end geometry written ≤ region_at geometry region)
    → region_of geometry region (overwrite at bytes image) ≡ region_of geometry region image
by_order geometry written region image at bytes inside from to (inl before) = writes_leave_apart geometry region image at bytes inside (inr (omega arith))
by_order geometry written region image at bytes inside from to (inr behind) = writes_leave_apart geometry region image at bytes inside (inl (omega arith))

pub writes_leave_others : WritesLeaveOtherRegions
writes_leave_others geometry written region image at bytes others room from to =
    by_order geometry written region image at bytes (omega (arith, regions_inside geometry written)) from to (regions_apart geometry region written others)

-- a write within a part
pub part_written : (from n at : ℕ) (bytes content : List ℕ) → at + length bytes ≤ n → from + n ≤ length content
    → part from n (overwrite (from + at) bytes content) ≡ overwrite at bytes (part from n content)
part_written from n at bytes content inside room =
    same_content (part from n whole) (overwrite at bytes (part from n content)) (long ∙ sym long_behind) (λ i below. entry i (omega (arith, long)))
  where
    whole : List ℕ
    whole = overwrite (from + at) bytes content

    fits : from + at + length bytes ≤ length content
    fits = omega arith

    size : length (part from n content) ≡ n
    size = length-part from n content room

    long : length (part from n whole) ≡ n
    long = length-part from n whole (omega (arith, length-overwrite (from + at) bytes content fits))

    long_behind : length (overwrite at bytes (part from n content)) ≡ n
    long_behind = length-overwrite at bytes (part from n content) (omega (arith, size)) ∙ size

    entry : (i : ℕ) → i < n → get_or (part from n whole) i 0 ≡ get_or (overwrite at bytes (part from n content)) i 0
    entry i below = get_or-part from n whole i below ∙ elim (cases_lt i at) [
      | inl before ↦
          overwrite_before (from + at) bytes content (from + i) (omega (arith, fits)) (omega arith)
          ∙ sym (get_or-part from n content i below)
          ∙ sym (overwrite_before at bytes (part from n content) i (omega (arith, size)) before)
      | inr after ↦ elim (cases_lt i (at + length bytes)) [
        | inl within ↦
            let there : from + i - (from + at) ≡ i - at = omega arith in
            overwrite_within (from + at) bytes content (from + i) (omega (arith, fits)) (omega arith) (omega arith)
            ∙ ap (λ (k : ℕ). get_or bytes k 0) there
            ∙ sym (overwrite_within at bytes (part from n content) i (omega (arith, size)) after within)
        | inr behind ↦
            overwrite_behind (from + at) bytes content (from + i) fits (omega arith)
            ∙ sym (get_or-part from n content i below)
            ∙ sym (overwrite_behind at bytes (part from n content) i (omega (arith, size)) behind)
      ]
    ]

pub writes_change_their_region : WritesChangeTheirRegion
writes_change_their_region geometry region image at bytes room inside =
    part_written (512 * region_at geometry region) (512 * region_sectors geometry region) at bytes image inside (omega (arith, regions_inside geometry region))
