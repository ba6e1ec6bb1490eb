-- Where the regions of an image are.
use Rattle.std.proofs.Common.{◌≡◌, ℕ, ◌+◌, ◌*◌, ◌≤◌, List, length, arith, refl}
use Rattle.byte_lists.specs.Content.{AreBytes}
use Rattle.byte_lists.specs.Sectors.{whole_sectors}
use Rattle.byte_lists.proofs.Contents.{length-part, bytes-part}
use Rattle.store_layout.specs.declared.half.Half.{Half}
use Rattle.store_layout.specs.declared.half.Half.TheVariants.{First, Second}
use Rattle.store_layout.specs.Layout.{Geometry, other, area_at, gate_at, journal_at, image_sectors, area_of, gate_of, journal_of}
use Rattle.store_layout.specs.FirstSector.{IsStore}

pub other_twice : (half : Half) → other (other half) ≡ half
other_twice First = refl
other_twice Second = refl

-- each region is within the image
pub half_inside : (geometry : Geometry) (half : Half) → journal_at geometry half + geometry.journal ≤ image_sectors geometry
half_inside geometry First = omega arith
half_inside geometry Second = omega arith

module _ (geometry : Geometry) (image : List ℕ) (room : image_sectors geometry ≤ whole_sectors image) (half : Half) where
  pub area_inside : 512 * area_at geometry half + 512 * geometry.checkpoint ≤ length image
  area_inside = omega (arith, half_inside geometry half)

  pub gate_inside : 512 * gate_at geometry half + 512 ≤ length image
  gate_inside = omega (arith, half_inside geometry half)

  pub journal_inside : 512 * journal_at geometry half + 512 * geometry.journal ≤ length image
  journal_inside = omega (arith, half_inside geometry half)

  pub area_long : length (area_of geometry half image) ≡ 512 * geometry.checkpoint
  area_long = length-part (512 * area_at geometry half) (512 * geometry.checkpoint) image area_inside

  pub gate_long : length (gate_of geometry half image) ≡ 512
  gate_long = length-part (512 * gate_at geometry half) 512 image gate_inside

  pub journal_long : length (journal_of geometry half image) ≡ 512 * geometry.journal
  journal_long = length-part (512 * journal_at geometry half) (512 * geometry.journal) image journal_inside

pub area_bytes : (geometry : Geometry) (half : Half) (image : List ℕ) → AreBytes image → AreBytes (area_of geometry half image)
area_bytes geometry half image each = bytes-part (512 * area_at geometry half) (512 * geometry.checkpoint) image each

pub journal_bytes : (geometry : Geometry) (half : Half) (image : List ℕ) → AreBytes image → AreBytes (journal_of geometry half image)
journal_bytes geometry half image each = bytes-part (512 * journal_at geometry half) (512 * geometry.journal) image each

-- a store's areas have a head, and its journals a sector
pub store_area : (geometry : Geometry) (image : List ℕ) → IsStore geometry image → (half : Half) → 24 ≤ length (area_of geometry half image)
store_area geometry image is half = omega (arith, area_long geometry image is.room half, is.limits)

pub store_journal : (geometry : Geometry) (image : List ℕ) → IsStore geometry image → (half : Half) → 1 ≤ whole_sectors (journal_of geometry half image)
store_journal geometry image is half = omega (arith, journal_long geometry image is.room half, is.limits)
