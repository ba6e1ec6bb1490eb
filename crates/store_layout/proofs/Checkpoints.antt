-- Whole checkpoints: a checkpoint at the front of an area is read, what is read is there, and what
-- is written is there.
use Rattle.std.proofs.Common.{◌≡◌, ℕ, ◌+◌, ◌-◌, ◌*◌, ◌≤◌, Bool, true, cond, leb, List, [], ◌++◌, length, take, drop, replicate, Some, None, Option, Ok, Err, Result, refl, sym, ◌∙◌, ap, arith, append_assoc, length-append, le-leb, leb-true}
use Rattle.std.proofs.lemmas.List.{get_or_past, take_at}
use Rattle.std.proofs.lemmas.Nat.{from_be_bytes-to_be_bytes_4}
use Rattle.std.specs.Int.{w32, to_be_bytes}
use Rattle.byte_lists.specs.Content.{AreBytes, part, overwrite}
use Rattle.byte_lists.specs.Sectors.{sectors_of, padded}
use Rattle.byte_lists.proofs.Contents.{length-part, bytes-part}
use Rattle.byte_lists.proofs.BigEndian.{encoded-four_at}
use Rattle.store_layout.specs.StoreFormat.{RowsFormat}
use Rattle.store_layout.specs.Checkpoint.{Head, Checkpoint, checkpoint_bytes, checkpoint_encoding, CanBeCheckpoint, IsHead, checkpoint_size, IsCheckpoint}
use Rattle.store_layout.specs.CheckpointReading.{PairRefusal, head_in, rows_size, rows_count, db_in, with_rows, checkpoint_in}
use Rattle.store_layout.specs.CheckpointLaws.{PiecesAreWritten, WholeEncodingIsThere, FirstCheckpointCanBe, IsCheckpointReadSo}
use Rattle.store_layout.proofs.Titles.{begins_with, split_part, some_if}
use Rattle.byte_lists.proofs.Padding.{length-padded}
use Rattle.std.proofs.Math.Seq.{take-add}
use Rattle.store_layout.proofs.Heads.{take_take, four_small, head_read, head_from}

-- the front of an area after padded bytes were written to it
pub written_front : (bytes content : List ℕ) → take (length bytes) (overwrite 0 (padded bytes) content) ≡ bytes
written_front bytes content =
    let zeros : List ℕ = replicate (512 * sectors_of (length bytes) - length bytes) 0 in
    let behind : List ℕ = drop (0 + length (padded bytes)) content in
    ap (take (length bytes)) (append_assoc bytes zeros behind) ∙ take_at bytes (zeros ++ behind) (length bytes) refl

-- whole checkpoints
module _ {Db : Type 0} (rows : RowsFormat Db) where
  -- the bytes of a checkpoint, and the bytes after them
  module _ (checkpoint : Checkpoint Db) (can : CanBeCheckpoint rows checkpoint) (rest : List ℕ) where
    size_read : rows_size (checkpoint_bytes rows checkpoint ++ rest) ≡ length (rows.encoding checkpoint.db)
    size_read = from_be_bytes-to_be_bytes_4 (length (rows.encoding checkpoint.db)) can.size

    count_read : rows_count (checkpoint_bytes rows checkpoint ++ rest) ≡ rows.count checkpoint.db
    count_read = from_be_bytes-to_be_bytes_4 (rows.count checkpoint.db) can.count

    rows_read : part 32 (length (rows.encoding checkpoint.db)) (checkpoint_bytes rows checkpoint ++ rest) ≡ rows.encoding checkpoint.db
    rows_read = take_at (rows.encoding checkpoint.db) rest (length (rows.encoding checkpoint.db)) refl

  pub begins_with_its_head : (area : List ℕ) (checkpoint : Checkpoint Db) → IsCheckpoint rows area checkpoint → IsHead area checkpoint.head
  begins_with_its_head area checkpoint is = record {
    can = is.can.head;
    spelled = ap (take 24) (begins_with (checkpoint_size rows checkpoint) area (checkpoint_bytes rows checkpoint) is.spelled);
  }

  pub db_read : (area : List ℕ) (checkpoint : Checkpoint Db) → IsCheckpoint rows area checkpoint → db_in rows area ≡ Some checkpoint.db
  db_read area checkpoint is =
      ap (λ (n : ℕ). cond (leb (32 + n) (length area)) (rows.decoding (rows_count area) (part 32 n area)) None) size
      ∙ ap (λ (b : Bool). cond b (rows.decoding (rows_count area) (part 32 n area)) None) (le-leb (32 + n) (length area) inside)
      ∙ (λ i. rows.decoding (count i) (bytes i))
      ∙ is.can.storable
    where
      n : ℕ
      n = length (rows.encoding checkpoint.db)

      rest : List ℕ
      rest = drop (checkpoint_size rows checkpoint) area

      begins : area ≡ checkpoint_bytes rows checkpoint ++ rest
      begins = begins_with (checkpoint_size rows checkpoint) area (checkpoint_bytes rows checkpoint) is.spelled

      size : rows_size area ≡ n
      size = ap rows_size begins ∙ size_read checkpoint is.can rest

      count : rows_count area ≡ rows.count checkpoint.db
      count = ap rows_count begins ∙ count_read checkpoint is.can rest

      bytes : part 32 n area ≡ rows.encoding checkpoint.db
      bytes = ap (part 32 n) begins ∙ rows_read checkpoint is.can rest

      inside : 32 + n ≤ length area
      inside = omega (arith, ap length begins, length-append (rows.encoding checkpoint.db) rest)

  pub checkpoint_read : (latest : ℕ) (area : List ℕ) (checkpoint : Checkpoint Db) → IsCheckpoint rows area checkpoint → checkpoint.head.version ≤ latest
      → checkpoint_in rows latest area ≡ Ok checkpoint
  checkpoint_read latest area checkpoint is known =
      ap (λ (head : Result Head PairRefusal). with_rows head (db_in rows area)) (head_read area checkpoint.head (begins_with_its_head area checkpoint is) latest known)
      ∙ ap (with_rows (Ok checkpoint.head)) (db_read area checkpoint is)

  -- rows that were read
  rows_found : (head : Result Head PairRefusal) (found : Option Db) (checkpoint : Checkpoint Db) → with_rows head found ≡ Ok checkpoint → (head ≡ Ok checkpoint.head) × (found ≡ Some checkpoint.db)
  rows_found (Err refusal) found checkpoint is = cc
  rows_found (Ok head) None checkpoint is = cc
  rows_found (Ok head) (Some db) checkpoint is =
      let same : record { head = head; db = db } ≡ checkpoint = cc in
      (ap (λ (c : Checkpoint Db). let r : Result Head PairRefusal = Ok c.head in r) same, ap (λ (c : Checkpoint Db). Some c.db) same)

  pub checkpoint_from : (latest : ℕ) (area : List ℕ) (checkpoint : Checkpoint Db) → AreBytes area → 24 ≤ length area → checkpoint_in rows latest area ≡ Ok checkpoint
      → IsCheckpoint rows area checkpoint × (checkpoint.head.version ≤ latest)
  checkpoint_from latest area checkpoint each long is = (record { can = can; spelled = spelled }, head.1)
    where
      found : (head_in latest area ≡ Ok checkpoint.head) × (db_in rows area ≡ Some checkpoint.db)
      found = rows_found (head_in latest area) (db_in rows area) checkpoint is

      head : IsHead area checkpoint.head × (checkpoint.head.version ≤ latest)
      head = head_from latest area checkpoint.head each long found.0

      size : ℕ
      size = rows_size area

      parts : (leb (32 + size) (length area) ≡ true) × (rows.decoding (rows_count area) (part 32 size area) ≡ Some checkpoint.db)
      parts = some_if (leb (32 + size) (length area)) (rows.decoding (rows_count area) (part 32 size area)) checkpoint.db found.1

      inside : 32 + size ≤ length area
      inside = leb-true _ _ parts.0

      bytes : rows.encoding checkpoint.db ≡ part 32 size area
      bytes = rows.spelled (rows_count area) (part 32 size area) checkpoint.db (bytes-part 32 size area each) parts.1

      count : rows.count checkpoint.db ≡ rows_count area
      count = rows.counted (rows_count area) (part 32 size area) checkpoint.db (bytes-part 32 size area each) parts.1

      long_so : length (rows.encoding checkpoint.db) ≡ size
      long_so = ap length bytes ∙ length-part 32 size area inside

      can : CanBeCheckpoint rows checkpoint
      can = record {
        head = head.0.can;
        size = omega (arith, four_small 24 area each (omega (arith, inside)), long_so);
        count = omega (arith, four_small 28 area each (omega (arith, inside)), count);
        storable = (λ i. rows.decoding (count i) (bytes i)) ∙ parts.1;
      }

      spelled : take (32 + length (rows.encoding checkpoint.db)) area ≡ checkpoint_bytes rows checkpoint
      spelled =
          ap (λ (n : ℕ). take n area) count_up
          ∙ split_part 0 24 (4 + (4 + size)) area
          ∙ ap (λ (list : List ℕ). take 24 area ++ list) (split_part 24 4 (4 + size) area ∙ ap (λ (list : List ℕ). part 24 4 area ++ list) (split_part 28 4 size area))
          ∙ (λ i. head.0.spelled i ++ (one i ++ (two i ++ sym bytes i)))
        where
          count_up : 32 + length (rows.encoding checkpoint.db) ≡ 24 + (4 + (4 + size))
          count_up = omega (arith, long_so)

          one : part 24 4 area ≡ to_be_bytes w32 (length (rows.encoding checkpoint.db))
          one = sym (encoded-four_at 24 area each (omega (arith, inside))) ∙ ap (to_be_bytes w32) (sym long_so)

          two : part 28 4 area ≡ to_be_bytes w32 (rows.count checkpoint.db)
          two = sym (encoded-four_at 28 area each (omega (arith, inside))) ∙ ap (to_be_bytes w32) (sym count)

  -- an area begins with the checkpoint that is written to it
  pub written_there : (area : List ℕ) (checkpoint : Checkpoint Db) → CanBeCheckpoint rows checkpoint → length (checkpoint_encoding rows checkpoint) ≤ length area
      → IsCheckpoint rows (overwrite 0 (checkpoint_encoding rows checkpoint) area) checkpoint
  written_there area checkpoint can fits = record {
    can = can;
    spelled = ap (λ (n : ℕ). take n (overwrite 0 (checkpoint_encoding rows checkpoint) area)) size ∙ written_front (checkpoint_bytes rows checkpoint) area;
  }
    where
      size : checkpoint_size rows checkpoint ≡ length (checkpoint_bytes rows checkpoint)
      size = omega arith

pub is_checkpoint_read_so : (Db : Type 0) → IsCheckpointReadSo Db
is_checkpoint_read_so Db rows latest area checkpoint each long = (checkpoint_from rows latest area checkpoint each long, λ so. checkpoint_read rows latest area checkpoint so.0 so.1)

-- the checkpoint of a new store
pub first_can_be : (Db C : Type 0) → FirstCheckpointCanBe Db C
first_can_be Db C format version some small = record {
  head = record { some = some; version = small; epoch = omega arith; place = omega arith };
  size = omega (arith, ap length bytes);
  count = omega (arith, count);
  storable = (λ i. format.rows.decoding (count i) (bytes i)) ∙ format.none;
}
  where
    no_bytes : AreBytes []
    no_bytes i = omega (arith, get_or_past {X = ℕ} [] i 0 (omega arith))

    bytes : format.rows.encoding format.empty ≡ []
    bytes = format.rows.spelled 0 [] format.empty no_bytes format.none

    count : format.rows.count format.empty ≡ 0
    count = format.rows.counted 0 [] format.empty no_bytes format.none

-- piece by piece
pub pieces_written : PiecesAreWritten
pieces_written bytes area at n inside fits same =
    take_at (take at area ++ piece) (drop (at + length piece) area) (at + n) long
    ∙ ap (λ (list : List ℕ). list ++ piece) same
    ∙ sym (take-add at n bytes)
  where
    piece : List ℕ
    piece = part at n bytes

    long : length (take at area ++ piece) ≡ at + n
    long = omega (arith, length-append (take at area) piece, length-part 0 at area (omega arith), length-part at n bytes inside)

pub whole_there : (Db : Type 0) → WholeEncodingIsThere Db
whole_there Db rows area checkpoint can is = record {
  can = can;
  spelled =
      ap (λ (n : ℕ). take n area) size
      ∙ sym (take_take (length bytes) (length (padded bytes)) area (omega (arith, length-padded bytes)))
      ∙ ap (take (length bytes)) is
      ∙ take_at bytes (replicate (512 * sectors_of (length bytes) - length bytes) 0) (length bytes) refl;
}
  where
    bytes : List ℕ
    bytes = checkpoint_bytes rows checkpoint

    size : checkpoint_size rows checkpoint ≡ length bytes
    size = omega arith
