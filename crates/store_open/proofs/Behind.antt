-- The sectors after a store, while the store is made, and while one half takes over from the other.
use Rattle.std.proofs.Common.{◌≡◌, inl, inr, ℕ, ◌+◌, ◌*◌, ◌<◌, ◌≤◌, List, length, refl, ◌∙◌, ap, arith, Result}
use Rattle.byte_lists.specs.Sectors.{padded, open_gate, closed_gate}
use Rattle.byte_lists.specs.Content.{part}
use Rattle.byte_lists.proofs.Contents.{length-overwrite, part_above}
use Rattle.sector_dev.specs.Disk.{Disk, IsHonest, IsWhole}
use Rattle.sector_dev.specs.Image.{IsFromImage}
use Rattle.sector_dev.specs.Calls.{WriteCall, SyncCall}
use Rattle.sector_dev.specs.Stretch.{Stretch}
use Rattle.sector_dev.proofs.Stretches.{stretch_sync, from_here, from_write}
use Rattle.store_layout.specs.declared.half.Half.{Half}
use Rattle.store_layout.specs.declared.half.Half.TheVariants.{First, Second}
use Rattle.store_layout.specs.Layout.{Geometry, IsGeometry, image_sectors, other, area_at, gate_at, journal_at}
use Rattle.store_layout.specs.FirstSector.{first_sector}
use Rattle.store_open.specs.NewStore.{first_checkpoint_bytes, DeviceHasRoomFor}
use Rattle.store_open.specs.Behind.{SameBehind}
use Rattle.store_open.specs.TakingOver.{IsTornAt, laid, switched, IsTakingOver}
use Rattle.store_open.proofs.Gates.{gates_inside}

module _ (geometry : Geometry) (start : Disk) where
  abbrev Kept : List ℕ → Type 0
  Kept = IsFromImage start.history.now (SameBehind geometry)

  pub kept_here : Stretch start start Kept
  kept_here = from_here (SameBehind geometry) start (λ content at n far. refl)

  pub kept_synced : {T E : Type 0} (mid new : Disk) (result : Result T E) → Stretch start mid Kept → SyncCall result mid new → Stretch start new Kept
  kept_synced mid new result so_far call = stretch_sync Kept start mid new result so_far call

  module _ (has : DeviceHasRoomFor geometry start) where
    -- a sector of the store is written
    kept_written : {T E : Type 0} (mid new : Disk) (sector : ℕ) (bytes : List ℕ) (result : Result T E) → length bytes ≡ 512 → sector < image_sectors geometry → (IsHonest mid → IsWhole mid)
        → Stretch start mid Kept → WriteCall sector bytes result mid new → Stretch start new Kept
    kept_written mid new sector bytes result one inside whole so_far call =
        from_write (SameBehind geometry) start mid new sector bytes result (omega (arith, has.room, one, inside)) whole so_far call
        (λ before content torn long size same at n far.
        part_above (512 * sector) torn content at n (omega (arith, one, size, inside, has.room, long)) (omega (arith, one, size, inside, far)) ∙ same at n far)

    pub kept_title : {T E : Type 0} (mid new : Disk) (bytes : List ℕ) (result : Result T E) → bytes ≡ first_sector geometry → (IsHonest mid → IsWhole mid)
        → Stretch start mid Kept → WriteCall 0 bytes result mid new → Stretch start new Kept
    kept_title mid new bytes result is whole so_far call = kept_written mid new 0 bytes result (ap length is) (omega arith) whole so_far call

    pub kept_area : {T E : Type 0} (mid new : Disk) (sector : ℕ) (bytes : List ℕ) (result : Result T E) → sector ≡ area_at geometry First → bytes ≡ padded first_checkpoint_bytes → (IsHonest mid → IsWhole mid)
        → Stretch start mid Kept → WriteCall sector bytes result mid new → Stretch start new Kept
    kept_area mid new sector bytes result at is whole so_far call = kept_written mid new sector bytes result (ap length is) (omega (arith, at, has.allowed)) whole so_far call

    pub kept_gate : {T E : Type 0} (mid new : Disk) (sector : ℕ) (bytes : List ℕ) (result : Result T E) → sector ≡ gate_at geometry First → bytes ≡ open_gate → (IsHonest mid → IsWhole mid)
        → Stretch start mid Kept → WriteCall sector bytes result mid new → Stretch start new Kept
    kept_gate mid new sector bytes result at is whole so_far call = kept_written mid new sector bytes result (ap length is) (omega (arith, at, has.allowed)) whole so_far call

    pub kept_journal : {T E : Type 0} (mid new : Disk) (sector : ℕ) (bytes : List ℕ) (result : Result T E) → sector ≡ journal_at geometry First → bytes ≡ closed_gate → (IsHonest mid → IsWhole mid)
        → Stretch start mid Kept → WriteCall sector bytes result mid new → Stretch start new Kept
    kept_journal mid new sector bytes result at is whole so_far call = kept_written mid new sector bytes result (ap length is) (omega (arith, at, has.allowed)) whole so_far call

    pub kept_second_gate : {T E : Type 0} (mid new : Disk) (sector : ℕ) (bytes : List ℕ) (result : Result T E) → sector ≡ gate_at geometry Second → bytes ≡ closed_gate → (IsHonest mid → IsWhole mid)
        → Stretch start mid Kept → WriteCall sector bytes result mid new → Stretch start new Kept
    kept_second_gate mid new sector bytes result at is whole so_far call = kept_written mid new sector bytes result (ap length is) (omega (arith, at, has.allowed)) whole so_far call

    pub kept_second_journal : {T E : Type 0} (mid new : Disk) (sector : ℕ) (bytes : List ℕ) (result : Result T E) → sector ≡ journal_at geometry Second → bytes ≡ closed_gate → (IsHonest mid → IsWhole mid)
        → Stretch start mid Kept → WriteCall sector bytes result mid new → Stretch start new Kept
    kept_second_journal mid new sector bytes result at is whole so_far call = kept_written mid new sector bytes result (ap length is) (omega (arith, at, has.allowed)) whole so_far call

-- one half takes over from the other
module _ (geometry : Geometry) (limits : IsGeometry geometry) (half : Half) (bytes reads : List ℕ) (fits : length bytes ≤ 512 * geometry.checkpoint) (long : 512 * image_sectors geometry ≤ length reads) where
  abbrev Beyond : List ℕ → Type 0
  Beyond = SameBehind geometry reads

  torn_beyond : (from n : ℕ) (old content : List ℕ) → length old ≡ length reads → from + n ≤ 512 * image_sectors geometry → Beyond old → IsTornAt from n old content → Beyond content
  torn_beyond from n old content size inside kept tear at m far =
      ap (part at m) tear.is ∙ part_above from tear.torn old at m (omega (arith, tear.size, inside, size, long)) (omega (arith, tear.size, inside, far)) ∙ kept at m far

  area_inside : (h : Half) → 512 * area_at geometry h + length bytes ≤ 512 * image_sectors geometry
  area_inside First = omega (arith, fits)
  area_inside Second = omega (arith, fits)

  gate_inside : (h : Half) → 512 * gate_at geometry h + 1024 ≤ 512 * image_sectors geometry
  gate_inside h = omega (arith, gates_inside geometry h (omega (arith, limits.least_journal)))

  laid_size : length (laid geometry half bytes reads) ≡ length reads
  laid_size = length-overwrite (512 * area_at geometry (other half)) bytes reads (omega (arith, area_inside (other half), long))

  laid_beyond : Beyond (laid geometry half bytes reads)
  laid_beyond =
      torn_beyond (512 * area_at geometry (other half)) (length bytes) reads (laid geometry half bytes reads) refl (area_inside (other half)) (λ at m far. refl)
      (record { torn = bytes; size = refl; is = refl })

  switched_size : length (switched geometry half bytes reads) ≡ length reads
  switched_size = length-overwrite (512 * gate_at geometry (other half)) open_gate (laid geometry half bytes reads) (omega (arith, gate_inside (other half), laid_size, long)) ∙ laid_size

  switched_beyond : Beyond (switched geometry half bytes reads)
  switched_beyond =
      torn_beyond (512 * gate_at geometry (other half)) 512 (laid geometry half bytes reads) (switched geometry half bytes reads) laid_size (omega (arith, gate_inside (other half))) laid_beyond
      (record { torn = open_gate; size = refl; is = refl })

  pub taking_beyond : (content : List ℕ) → IsTakingOver geometry half bytes reads content → Beyond content
  taking_beyond content (inl tear) =
      torn_beyond (512 * area_at geometry (other half)) (length bytes) reads content refl (area_inside (other half)) (λ at m far. refl) tear
  taking_beyond content (inr (inl tear)) =
      torn_beyond (512 * gate_at geometry (other half)) 512 (laid geometry half bytes reads) content laid_size (omega (arith, gate_inside (other half))) laid_beyond tear
  taking_beyond content (inr (inr tear)) =
      torn_beyond (512 * gate_at geometry half) 1024 (switched geometry half bytes reads) content switched_size (gate_inside half) switched_beyond tear
