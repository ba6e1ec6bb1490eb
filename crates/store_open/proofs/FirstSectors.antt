-- The sizes in sector 0.
use Rattle.std.proofs.Common.{◌≡◌, ℕ, ◌+◌, ◌-◌, ◌≤◌, ◌==◌, ◌&&◌, if◌then◌else◌, Bool, cond, leb, List, take, drop, Option, Some, None, sym, ◌∙◌, ap, arith, le-leb}
use Rattle.std.proofs.lemmas.Bool.{and_from}
use Rattle.std.proofs.lemmas.List.{drop-take, take-take}
use Rattle.std.proofs.lemmas.Option.{cond_some}
use Rattle.std.specs.Int.{w32, w64, from_be_bytes}
use Rattle.byte_lists.specs.Content.{part}
use Rattle.byte_lists.specs.Numbers.{four_at, eight_at}
use Rattle.byte_lists.specs.Sectors.{whole_sectors}
use Rattle.store_layout.specs.Layout.{Geometry, image_sectors}
use Rattle.store_layout.specs.FirstSector.{store_magic, layout_number, sizes_in, is_geometry, geometry_in}
use Rattle.store_open.specs.Titles.{is_title, sizes_told}

-- a part within the front of a list
pub part_in_front : (at n size : ℕ) (xs : List ℕ) → at + n ≤ size → part at n (take size xs) ≡ part at n xs
part_in_front at n size xs inside =
    let split : size ≡ at + (size - at) = omega arith in
    ap (λ (m : ℕ). take n (drop at (take m xs))) split ∙ ap (take n) (drop-take at (size - at) xs) ∙ take-take n (size - at) (drop at xs) (omega arith)

-- The sizes that four numbers of a sector tell.
abbrev told_by : ℕ → ℕ → ℕ → ℕ → Option Geometry
told_by magic layout checkpoint journal =
    let sizes : Geometry = record { checkpoint = checkpoint; journal = journal } in
    if (magic == store_magic) && (layout == layout_number) && is_geometry sizes then Some sizes else None

module _ (image sector : List ℕ) (is : part 0 512 image ≡ sector) where
  four_same : (at : ℕ) → at + 4 ≤ 512 → four_at at image ≡ four_at at sector
  four_same at inside = ap (from_be_bytes w32) (sym (part_in_front at 4 512 image inside) ∙ ap (part at 4) is)

  eight_same : (at : ℕ) → at + 8 ≤ 512 → eight_at at image ≡ eight_at at sector
  eight_same at inside = ap (from_be_bytes w64) (sym (part_in_front at 8 512 image inside) ∙ ap (part at 8) is)

  sizes_same : sizes_told image ≡ sizes_told sector
  sizes_same = λ i. told_by (eight_same 0 (omega arith) i) (four_same 8 (omega arith) i) (four_same 12 (omega arith) i) (four_same 16 (omega arith) i)

  pub geometry_told : (geometry : Geometry) → Some geometry ≡ sizes_told sector → image_sectors geometry ≤ whole_sectors image → Some geometry ≡ geometry_in image
  geometry_told geometry told room =
      let is = cond_some (is_title image) (sizes_in image) geometry (sizes_same ∙ sym told) in
      let store = and_from _ _ is.0 (ap (λ (s : Geometry). leb (image_sectors s) (whole_sectors image)) is.1 ∙ le-leb _ _ room) in
      sym (ap (λ (b : Bool). cond b (Some (sizes_in image)) None) store ∙ ap Some is.1)
