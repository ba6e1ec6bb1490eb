-- A checkpoint by its front and its rows: for `reading` and `rows_laws`.
use Rattle.std.proofs.Common.{◌≡◌, ℕ, zero, suc, [], ◌∷◌, ◌+◌, ◌≤◌, Bool, true, false, leb, eqb, List, length, take, Ok, Err, Some, None, refl, sym, ap, subst, ◌∙◌, arith}
use Rattle.std.specs.Prelude.{Result, Option, IsOk, if◌then◌else◌}
use Rattle.std.specs.Int.{w32, w64, from_be_bytes}
use Rattle.byte_lists.specs.Content.{part}
use Rattle.byte_lists.specs.Numbers.{four_at, eight_at}
use Rattle.store_layout.specs.GroupReading.{refuse_unless}
use Rattle.store_layout.specs.Checkpoint as laws
use Rattle.store_layout.specs.CheckpointReading.{PairRefusal, BadCheckpoint, NewerFormat, head_in, rows_size, rows_count, with_rows, checkpoint_in}
use Rattle.row_map.specs.Database.{RowView}
use Rattle.path_records.specs.RowRecord.{rows_decoding, HasOutline}
use Rattle.ckpt_pair.specs.declared.error.PairError.{PairError}
use Rattle.ckpt_pair.specs.declared.reading.Front.{Front}
use Rattle.ckpt_pair.specs.Refusals.{ReadsPair}
use Rattle.ckpt_pair.specs.Heads.{head_view}
use Rattle.store_layout.specs.Limits.{latest}
use Rattle.ckpt_pair.specs.Rows.{as_counted, rows_format}
use Rattle.ckpt_pair.specs.Reading.{FrontView, front_view, with_room, front_in, or_bad_checkpoint, HasRowsToRead, with_head, with_rows_behind, rows_behind, AreReadByTheirFronts}

-- the checkpoint by its head, and by whether the rows end within the area
by_front : (head : Result laws.Head PairRefusal) (fits : Bool) (size count : ℕ) (found : FrontView → Option (List RowView)) (rows : Option (List RowView))
    → ((h : laws.Head) → found (record { head = h; size = size; count = count }) ≡ rows)
    → with_rows head (if fits then rows else None) ≡ with_rows_behind (with_room head fits size count) found
by_front (Err refusal) fits size count found rows same = refl
by_front (Ok head) false size count found rows same = refl
by_front (Ok head) true size count found rows same = so rows ∙ ap (with_head head) (sym (same head))
  where
    so : (rows : Option (List RowView)) → with_rows (Ok head) rows ≡ with_head head rows
    so None = refl
    so (Some db) = refl

by_its_front : (area : List ℕ) → checkpoint_in rows_format latest area ≡ with_rows_behind (front_in latest (length area) area) (rows_behind area)
by_its_front area =
    by_front (head_in latest area) (leb (32 + rows_size area) (length area)) (rows_size area) (rows_count area)
    (rows_behind area) (as_counted (rows_count area) (rows_decoding (part 32 (rows_size area) area))) (λ h. refl)

-- ---- reading

front_is : (front : Front) (reading : Result FrontView PairRefusal) → ReadsPair front_view (Ok front) reading → reading ≡ Ok (front_view front)
front_is front (Ok view) reads = cc
front_is front (Err refusal) reads = absurd reads

front_size : (area : List ℕ) (front : Front) (head : Result laws.Head PairRefusal) (fits : Bool) (size count : ℕ)
    → ReadsPair front_view (Ok front) (with_room head fits size count) → front.size ≡ size
front_size area front (Err refusal) fits size count reads = absurd reads
front_size area front (Ok head) false size count reads = absurd reads
front_size area front (Ok head) true size count reads = sym (ap (λ (view : FrontView). view.size) reads)

found_is : (found : Option (List RowView)) (rows : List RowView) → or_bad_checkpoint found ≡ Ok rows → found ≡ Some rows
found_is None rows is = absurd cc
found_is (Some found) rows is = cc

module _ (area : List ℕ) (front : Front) (rows : List ℕ) (reads : ReadsPair front_view (Ok front) (front_in latest (length area) area)) (are : rows ≡ part 32 front.size area) where
  split : checkpoint_in rows_format latest area ≡ with_head (head_view front.head) (as_counted front.count (rows_decoding rows))
  split =
      by_its_front area
      ∙ ap (λ (r : Result FrontView PairRefusal). with_rows_behind r (rows_behind area)) (front_is front (front_in latest (length area) area) reads)
      ∙ ap (λ (l : List ℕ). with_head (head_view front.head) (as_counted front.count (rows_decoding l))) (sym are)

  pub half_read : (db : List RowView) → or_bad_checkpoint (as_counted front.count (rows_decoding rows)) ≡ Ok db
      → checkpoint_in rows_format latest area ≡ Ok (record { head = head_view front.head; db = db })
  half_read db is = split ∙ ap (with_head (head_view front.head)) (found_is (as_counted front.count (rows_decoding rows)) db is)

  pub half_refused : {X : Type 0} (view : X → laws.Checkpoint (List RowView)) (e : PairError) → ReadsPair (λ (db : List RowView). db) (Err e) (or_bad_checkpoint (as_counted front.count (rows_decoding rows)))
      → ReadsPair view (Err e) (checkpoint_in rows_format latest area)
  half_refused {X} view e is =
      subst (λ (r : Result (laws.Checkpoint (List RowView)) PairRefusal). ReadsPair view (Err e) r) (sym split) (so (as_counted front.count (rows_decoding rows)) is)
    where
      so : (found : Option (List RowView)) → ReadsPair (λ (db : List RowView). db) (Err e) (or_bad_checkpoint found) → ReadsPair view (Err e) (with_head (head_view front.head) found)
      so None is = is
      so (Some db) is = absurd is

  pub half_has_rows : HasOutline rows → HasRowsToRead area
  half_has_rows outline = record {
    front = subst (λ (r : Result FrontView PairRefusal). IsOk r) (sym (front_is front (front_in latest (length area) area) reads)) refl;
    outline = subst HasOutline (are ∙ ap (λ n. part 32 n area) (front_size area front (head_in latest area) (leb (32 + rows_size area) (length area)) (rows_size area) (rows_count area) reads)) outline;
  }

-- ---- the first 32 bytes

-- a head from its numbers
abbrev head_of : ℕ → ℕ → ℕ → ℕ → Result laws.Head PairRefusal
head_of magic version epoch place =
    refuse_unless (eqb magic laws.checkpoint_magic) BadCheckpoint
    (refuse_unless (leb 1 version) BadCheckpoint
    (refuse_unless (leb version latest) (NewerFormat version) (Ok (record { version = version; epoch = epoch; place = place }))))

take_again : (n k : ℕ) (list : List ℕ) → n ≤ k → take n (take k list) ≡ take n list
take_again zero k list few = refl
take_again (suc n) zero list few = absurd (omega (arith, few))
take_again (suc n) (suc k) [] few = refl
take_again (suc n) (suc k) (x ∷ list) few = ap (λ (l : List ℕ). x ∷ l) (take_again n k list (omega (arith, few)))

part_in_front : (at n k : ℕ) (list : List ℕ) → at + n ≤ k → part at n list ≡ part at n (take k list)
part_in_front zero n k list within = sym (take_again n k list (omega (arith, within)))
part_in_front (suc at) n zero list within = absurd (omega (arith, within))
part_in_front (suc at) n (suc k) [] within = refl
part_in_front (suc at) n (suc k) (x ∷ list) within = part_in_front at n k list (omega (arith, within))

-- a number within the first bytes depends on these bytes alone
part_same : (at n k : ℕ) (one other : List ℕ) → at + n ≤ k → take k one ≡ take k other → part at n one ≡ part at n other
part_same at n k one other within same = part_in_front at n k one within ∙ ap (part at n) same ∙ sym (part_in_front at n k other within)

module _ (area bytes : List ℕ) (same : take 32 bytes ≡ take 32 area) where
  four : (at : ℕ) → at + 4 ≤ 32 → four_at at bytes ≡ four_at at area
  four at within = ap (from_be_bytes w32) (part_same at 4 32 bytes area within same)

  eight : (at : ℕ) → at + 8 ≤ 32 → eight_at at bytes ≡ eight_at at area
  eight at within = ap (from_be_bytes w64) (part_same at 8 32 bytes area within same)

  head_same : head_in latest bytes ≡ head_in latest area
  head_same = λ i. head_of (four 0 (omega arith) i) (four 4 (omega arith) i) (eight 8 (omega arith) i) (eight 16 (omega arith) i)

  front_same : front_in latest (length area) bytes ≡ front_in latest (length area) area
  front_same = λ i. with_room (head_same i) (leb (32 + four 24 (omega arith) i) (length area)) (four 24 (omega arith) i) (four 28 (omega arith) i)

pub by_fronts : AreReadByTheirFronts
by_fronts area long = record {
  checkpoint = by_its_front area;
  front = λ bytes same. front_same area bytes same;
}
