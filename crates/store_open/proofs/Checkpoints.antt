-- A checkpoint that is read from a device: its front, and then its rows.
use Rattle.std.proofs.Common.{◌≡◌, ◌≢◌, ℕ, ◌+◌, ◌*◌, ◌≤◌, Bool, true, false, leb, leb-true, List, length, take, drop, Result, Ok, Err, Option, Some, None, refl, sym, ◌∙◌, ap, subst, arith}
use Rattle.std.proofs.lemmas.List.{take-take, drop-drop}
use Rattle.std.specs.Result.{is_ok, IsOk}
use Rattle.byte_lists.specs.Content.{part}
use Rattle.byte_lists.specs.Sectors.{sector_at}
use Rattle.byte_lists.proofs.Contents.{length-part}
use Rattle.row_map.specs.Database.{RowView}
use Rattle.path_records.specs.RowRecord.{rows_decoding}
use Rattle.store_layout.specs.declared.half.Half.{Half}
use Rattle.store_layout.specs.declared.half.Half.TheVariants.{First, Second}
use Rattle.store_layout.specs.Checkpoint.{Checkpoint, Head}
use Rattle.store_layout.specs.CheckpointReading.{PairRefusal, BadCheckpoint, head_in, rows_size, rows_count, checkpoint_in}
use Rattle.store_layout.specs.Layout.{Geometry, IsGeometry, image_sectors, area_at, area_of}
use Rattle.ckpt_pair.specs.declared.error.PairError.{PairError}
use Rattle.ckpt_pair.specs.declared.error.PairError.TheVariants as pair
use Rattle.store_layout.specs.Limits.{latest}
use Rattle.ckpt_pair.specs.Reading.{FrontView, front_in, with_room, or_bad_checkpoint, with_head, with_rows_behind, rows_behind, AreReadByTheirFronts}
use Rattle.ckpt_pair.specs.Refusals.{ReadsPair}
use Rattle.ckpt_pair.specs.Rows.{rows_format, as_counted}
use Rattle.store_open.specs.declared.error.OpenError.{OpenError}
use Rattle.store_open.specs.declared.error.OpenError.TheVariants.{NotAStore, Device, Pair, Journal, NoMemory}
use Rattle.store_open.specs.Refusals.{error_of_pair, PairSo}
use Rattle.store_open.specs.Rows.{FeedsSo}
use Rattle.store_open.proofs.FirstSectors.{part_in_front}
use Rattle.store_open.proofs.Fronts.{pair_refused, pair_given}

area_inside : (geometry : Geometry) (half : Half) → area_at geometry half + geometry.checkpoint ≤ image_sectors geometry
area_inside geometry First = omega arith
area_inside geometry Second = omega arith

-- a front that is refused refuses the checkpoint
behind_refused : {X Z : Type 0} (see : X → Checkpoint (List RowView)) (view : Z → FrontView) (e : PairError) (front : Result FrontView PairRefusal) (found : FrontView → Option (List RowView))
    → ReadsPair view (Err e) front → ReadsPair see (Err e) (with_rows_behind front found)
behind_refused see view e (Ok y) found so = absurd so
behind_refused see view e (Err refusal) found so = so

-- a front that is read has room for its rows
pub fits_from : (head : Result Head PairRefusal) (fits : Bool) (size count : ℕ) (front : FrontView) → with_room head fits size count ≡ Ok front → (fits ≡ true) × (front.size ≡ size)
fits_from (Err refusal) fits size count front is = absurd cc
fits_from (Ok h) false size count front is = absurd cc
fits_from (Ok h) true size count front is =
    let same : record { head = h; size = size; count = count } ≡ front = cc in
    (refl, ap (λ (f : FrontView). f.size) (sym same))

-- rows that are refused
rows_refused : {X : Type 0} (see : X → Checkpoint (List RowView)) (e : OpenError) (bytes : List ℕ) (head : Head) (count : ℕ) → FeedsSo bytes (Err e) → PairSo see (Err e) (with_head head (as_counted count (rows_decoding bytes)))
rows_refused see NotAStore bytes head count so = so
rows_refused see Device bytes head count so = tt
rows_refused see (Pair e) bytes head count so =
    (λ same. let clash = sym so.0 ∙ same in cc, record { refusal = BadCheckpoint; is = ap (with_head head) (so.1 count); told = so.0 })
rows_refused see (Journal e) bytes head count so = so
rows_refused see NoMemory bytes head count so = tt

-- rows with another count
count_refused : {X : Type 0} (see : X → Checkpoint (List RowView)) (e : PairError) (head : Head) (found : Option (List RowView)) → ReadsPair {X = List RowView} (λ rows. rows) (Err e) (or_bad_checkpoint found) → ReadsPair see (Err e) (with_head head found)
count_refused see e head None so = so
count_refused see e head (Some rows) so = absurd so

counted : (db : List RowView) (head : Head) (found : Option (List RowView)) → or_bad_checkpoint found ≡ Ok db → with_head head found ≡ Ok (record { head = head; db = db })
counted db head None so = absurd cc
counted db head (Some rows) so =
    let same : rows ≡ db = cc in
    ap (λ (l : List RowView). let r : Result (Checkpoint (List RowView)) PairRefusal = Ok (record { head = head; db = l }) in r) same

module _ (geometry : Geometry) (half : Half) (reads sector : List ℕ) (at : ℕ) (allowed : IsGeometry geometry) (room : 512 * image_sectors geometry ≤ length reads) (law : AreReadByTheirFronts)
    (place : at ≡ area_at geometry half) (is : sector ≡ sector_at at reads) where
  long : length (area_of geometry half reads) ≡ 512 * geometry.checkpoint
  long = length-part (512 * area_at geometry half) (512 * geometry.checkpoint) reads (omega (arith, room, area_inside geometry half))

  begins : take 32 sector ≡ take 32 (area_of geometry half reads)
  begins =
      ap (take 32) (is ∙ ap (λ (n : ℕ). sector_at n reads) place)
      ∙ take-take 32 512 (drop (512 * area_at geometry half) reads) (omega arith)
      ∙ sym (take-take 32 (512 * geometry.checkpoint) (drop (512 * area_at geometry half) reads) (omega (arith, allowed)))

  pub read_so : checkpoint_in rows_format latest (area_of geometry half reads) ≡ with_rows_behind (front_in latest (512 * geometry.checkpoint) sector) (rows_behind (area_of geometry half reads))
  read_so =
      let by_front = law (area_of geometry half reads) (omega (arith, long, allowed)) in
      by_front.checkpoint
      ∙ sym (ap (λ (f : Result FrontView PairRefusal). with_rows_behind f (rows_behind (area_of geometry half reads)))
      (ap (λ (n : ℕ). front_in latest n sector) (sym long) ∙ by_front.front sector begins))

  -- the bytes of the rows, where they end within the area
  pub rows_there : (size : ℕ) → 32 + size ≤ 512 * geometry.checkpoint → part 32 size (area_of geometry half reads) ≡ part (512 * at + 32) size reads
  rows_there size fits =
      part_in_front 32 size (512 * geometry.checkpoint) (drop (512 * area_at geometry half) reads) fits
      ∙ ap (take size) (drop-drop 32 (512 * area_at geometry half) reads)
      ∙ ap (λ (n : ℕ). part (512 * n + 32) size reads) (sym place)

  abbrev Area : List ℕ
  Area = area_of geometry half reads

  -- a front that was read is the front of the area
  pub front_stands : (front : FrontView) (n : ℕ) → n ≡ geometry.checkpoint → front_in latest (512 * n) sector ≡ Ok front → IsOk (front_in latest (512 * geometry.checkpoint) Area)
  front_stands front n size is_front =
      let by_front = law Area (omega (arith, long, allowed)) in
      let there : front_in latest (512 * geometry.checkpoint) Area ≡ Ok front =
      ap (λ (m : ℕ). front_in latest m Area) (sym long)
      ∙ sym (by_front.front sector begins)
      ∙ ap (λ (m : ℕ). front_in latest m sector) long
      ∙ ap (λ (k : ℕ). front_in latest (512 * k) sector) (sym size)
      ∙ is_front in
      ap (λ (r : Result FrontView PairRefusal). is_ok r) there

  -- each way out
  pub front_refused : {X Z : Type 0} (see : X → Checkpoint (List RowView)) (view : Z → FrontView) (e : PairError) (n : ℕ) → n ≡ geometry.checkpoint → ReadsPair view (Err e) (front_in latest (512 * n) sector)
      → PairSo see (Err (error_of_pair e)) (checkpoint_in rows_format latest Area)
  front_refused see view e n size so =
      subst (PairSo see (Err (error_of_pair e))) (sym read_so)
      (pair_refused see e (with_rows_behind (front_in latest (512 * geometry.checkpoint) sector) (rows_behind Area))
      (behind_refused see view e (front_in latest (512 * geometry.checkpoint) sector) (rows_behind Area) (subst (λ (k : ℕ). ReadsPair view (Err e) (front_in latest (512 * k) sector)) size so)))

  module _ (front : FrontView) (n : ℕ) (size : n ≡ geometry.checkpoint) (is_front : front_in latest (512 * n) sector ≡ Ok front) where
    pub fits : 32 + front.size ≤ 512 * geometry.checkpoint
    fits =
        let so = fits_from (head_in latest sector) (leb (32 + rows_size sector) (512 * n)) (rows_size sector) (rows_count sector) front is_front in
        omega (arith, leb-true (32 + rows_size sector) (512 * n) so.0, so.1, size)

    pub read_behind : checkpoint_in rows_format latest Area ≡ with_head front.head (as_counted front.count (rows_decoding (part (512 * at + 32) front.size reads)))
    read_behind =
        read_so
        ∙ ap (λ (f : Result FrontView PairRefusal). with_rows_behind f (rows_behind Area)) (ap (λ (k : ℕ). front_in latest (512 * k) sector) (sym size) ∙ is_front)
        ∙ ap (λ (bytes : List ℕ). with_head front.head (as_counted front.count (rows_decoding bytes))) (rows_there front.size fits)

    pub feed_refused_so : {X : Type 0} (see : X → Checkpoint (List RowView)) (e : OpenError) → FeedsSo (part (512 * at + 32) front.size reads) (Err e)
        → PairSo see (Err e) (checkpoint_in rows_format latest Area)
    feed_refused_so see e so =
        subst (PairSo see (Err e)) (sym read_behind) (rows_refused see e (part (512 * at + 32) front.size reads) front.head front.count so)

    pub count_refused_so : {X : Type 0} (see : X → Checkpoint (List RowView)) (e : PairError) (fed : List ℕ) → fed ≡ part (512 * at + 32) front.size reads
        → (e ≢ pair.NoMemory → ReadsPair {X = List RowView} (λ rows. rows) (Err e) (or_bad_checkpoint (as_counted front.count (rows_decoding fed))))
        → PairSo see (Err (error_of_pair e)) (checkpoint_in rows_format latest Area)
    count_refused_so see e fed same so =
        subst (PairSo see (Err (error_of_pair e))) (sym read_behind)
        (pair_given see e (with_head front.head (as_counted front.count (rows_decoding (part (512 * at + 32) front.size reads))))
        (λ other. count_refused see e front.head (as_counted front.count (rows_decoding (part (512 * at + 32) front.size reads)))
        (subst (λ (bytes : List ℕ). ReadsPair {X = List RowView} (λ rows. rows) (Err e) (or_bad_checkpoint (as_counted front.count (rows_decoding bytes)))) same (so other))))

    pub counted_so : (db : List RowView) (fed : List ℕ) → fed ≡ part (512 * at + 32) front.size reads → or_bad_checkpoint (as_counted front.count (rows_decoding fed)) ≡ Ok db
        → checkpoint_in rows_format latest Area ≡ Ok (record { head = front.head; db = db })
    counted_so db fed same so =
        read_behind ∙ counted db front.head (as_counted front.count (rows_decoding (part (512 * at + 32) front.size reads)))
        (subst (λ (bytes : List ℕ). or_bad_checkpoint (as_counted front.count (rows_decoding bytes)) ≡ Ok db) same so)
