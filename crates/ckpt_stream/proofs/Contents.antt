-- What is read of a half, by the half's contents and by what reads give.
use Rattle.std.proofs.Common.{◌≡◌, ℕ, zero, suc, ◌+◌, ◌-◌, ◌*◌, ◌≤◌, Bool, true, false, leb-true, List, [], ◌∷◌, length, take, drop, Ok, Err, Some, None, refl, sym, ◌∙◌, ap, subst, arith}
use Rattle.std.specs.Prelude.{Result, Option, if◌then◌else◌, nat_le}
use Rattle.std.proofs.lemmas.List.{drop-drop}
use Rattle.byte_lists.specs.Content.{AreBytes, part}
use Rattle.byte_lists.specs.Sectors.{whole_sectors, sectors_of}
use Rattle.byte_lists.proofs.Contents.{length-part, bytes-part}
use Rattle.row_map.specs.Database.{RowView}
use Rattle.path_db.specs.declared.command.Command.{Command}
use Rattle.path_db.specs.Command.{database_after_all}
use Rattle.path_records.specs.RowRecord.{rows_encoding, rows_decoding}
use Rattle.path_records.proofs.RowsBack.{rows_spelled}
use Rattle.store_layout.specs.declared.half.Half.{Half}
use Rattle.store_layout.specs.declared.half.Half.TheVariants.{First, Second}
use Rattle.store_layout.specs.Checkpoint.{Head, Checkpoint}
use Rattle.store_layout.specs.CheckpointReading.{PairRefusal, head_in, rows_size, rows_count, with_rows, db_in}
use Rattle.store_layout.specs.Journal.{Reading}
use Rattle.store_layout.specs.JournalReading.{journal_scan}
use Rattle.store_layout.specs.Layout.{Geometry, IsGeometry, image_sectors, area_at, area_of, journal_of}
use Rattle.store_layout.specs.Limits.{limits_of, latest}
use Rattle.gate_journal.specs.Commands.{command_format}
use Rattle.gate_journal.specs.Scanning.{reading_of, IsReadUpTo}
use Rattle.ckpt_pair.specs.declared.reading.Front.{Front}
use Rattle.ckpt_pair.specs.Heads.{head_view}
use Rattle.ckpt_pair.specs.Reading.{with_head}
use Rattle.ckpt_pair.specs.Rows.{rows_format, as_counted, counted_rows}
use Rattle.ckpt_pair.specs.Stream.{StreamView, HasStreamed}
use Rattle.path_records.specs.RowCursor.{HasGiven}
use Rattle.store_open.specs.Sealed.{folded_in, folded_behind, sealed_half}
use Rattle.store_open.proofs.FirstSectors.{part_in_front}
use Rattle.store_open.proofs.Journals.{journal_sectors, journal_size}
use Rattle.ckpt_stream.specs.declared.half_read.HalfRead.{HalfRead}
use Rattle.ckpt_stream.specs.declared.half_read.HalfRead.TheVariants.{Unread, Journal, Rows, Settled, Planned}
use Rattle.ckpt_stream.specs.Sums.{sums_in}
use Rattle.ckpt_stream.specs.OldArea.{IsReadByFront}
use Rattle.ckpt_stream.specs.HalfRead.{IsHalfRead, IsWithin, AreAllRead, IsReadOn}
use Rattle.ckpt_stream.specs.Preparation.{SealedContents, HasSealed, IsFrontFrom, sealed_reading, AreAllFrom, IsReadFrom}
use Rattle.ckpt_stream.proofs.SameJournal.{read_alike, scanned_as}

area_inside : (geometry : Geometry) (half : Half) → area_at geometry half + geometry.checkpoint ≤ image_sectors geometry
area_inside geometry First = omega arith
area_inside geometry Second = omega arith

-- ---- the rows of an area that is read as a checkpoint

rows_of : (head : Result Head PairRefusal) (found : Option (List RowView)) (c : Checkpoint (List RowView)) → with_rows head found ≡ Ok c → found ≡ Some c.db
rows_of (Err refusal) found c is = absurd cc
rows_of (Ok head) None c is = absurd cc
rows_of (Ok head) (Some db) c is =
    let same : record { head = head; db = db } ≡ c = cc in
    ap (λ (x : Checkpoint (List RowView)). Some x.db) same

rows_if : (fits : Bool) (found : Option (List RowView)) (db : List RowView) → (if fits then found else None) ≡ Some db → (fits ≡ true) × (found ≡ Some db)
rows_if true found db is = (refl, is)
rows_if false found db is = absurd cc

headed : (head : Head) (found : Option (List RowView)) (c : Checkpoint (List RowView)) → with_head head found ≡ Ok c → (head ≡ c.head) × (found ≡ Some c.db)
headed head None c is = absurd cc
headed head (Some rows) c is =
    let same : record { head = head; db = rows } ≡ c = cc in
    (ap (λ (x : Checkpoint (List RowView)). x.head) same, ap (λ (x : Checkpoint (List RowView)). Some x.db) same)

-- bytes that are read as rows are their records
spelled : (bytes : List ℕ) (count : ℕ) (rows : List RowView) → AreBytes bytes → as_counted count (rows_decoding bytes) ≡ Some rows → rows_encoding rows ≡ bytes
spelled bytes count rows each is = (rows_spelled bytes rows each (counted_rows count (rows_decoding bytes) rows is).0).0

-- two cuts, in both orders
take_both : (m n : ℕ) (l : List ℕ) → take m (take n l) ≡ take n (take m l)
take_both zero zero l = refl
take_both zero (suc n) l = refl
take_both (suc m) zero l = refl
take_both (suc m) (suc n) [] = refl
take_both (suc m) (suc n) (x ∷ l) = ap (λ (t : List ℕ). x ∷ t) (take_both m n l)

-- a stream does not see the bytes after the rows
streams_same : (size count : ℕ) (pushed other : List ℕ) (given : List RowView) (stream : StreamView) → length pushed ≡ length other → take size pushed ≡ take size other
    → HasStreamed size count pushed given stream → HasStreamed size count other given stream
streams_same size count pushed other given stream long same is = record {
  cursor = subst (λ (l : List ℕ). HasGiven l given stream.cursor) same is.cursor;
  bytes = omega (arith, is.bytes, long);
  rows = is.rows;
}

module _ (geometry : Geometry) (half : Half) (reads : List ℕ) (allowed : IsGeometry geometry) (each : AreBytes reads) (room : 512 * image_sectors geometry ≤ length reads) where
  abbrev At : ℕ
  At = 512 * area_at geometry half + 32

  abbrev Area : List ℕ
  Area = area_of geometry half reads

  abbrev Bytes : List ℕ
  Bytes = journal_of geometry half reads

  area_long : length Area ≡ 512 * geometry.checkpoint
  area_long = length-part (512 * area_at geometry half) (512 * geometry.checkpoint) reads (omega (arith, room, area_inside geometry half))

  -- bytes within the area
  part_long : (size : ℕ) → 32 + size ≤ 512 * geometry.checkpoint → length (part At size reads) ≡ size
  part_long size fits = length-part At size reads (omega (arith, room, fits, area_inside geometry half))

  part_there : (size : ℕ) → 32 + size ≤ 512 * geometry.checkpoint → part 32 size Area ≡ part At size reads
  part_there size fits =
      part_in_front 32 size (512 * geometry.checkpoint) (drop (512 * area_at geometry half) reads) fits ∙ ap (take size) (drop-drop 32 (512 * area_at geometry half) reads)

  module _ (contents : SealedContents) (has : HasSealed geometry half contents reads) where
    abbrev db : List RowView
    db = contents.checkpoint.db

    abbrev size : ℕ
    size = length (rows_encoding db)

    record RowsThere : Type 0 where
      fits : 32 + size ≤ 512 * geometry.checkpoint
      counted : as_counted (length db) (rows_decoding (part At size reads)) ≡ Some db

    rows_at : (n count : ℕ) → 32 + n ≤ 512 * geometry.checkpoint → as_counted count (rows_decoding (part 32 n Area)) ≡ Some db → RowsThere
    rows_at n count fits is =
        let there = ap (λ (l : List ℕ). as_counted count (rows_decoding l)) (sym (part_there n fits)) ∙ is in
        let bytes = spelled (part At n reads) count db (bytes-part At n reads each) there in
        let long : size ≡ n = omega (arith, ap length bytes, part_long n fits) in
        let number = (counted_rows count (rows_decoding (part At n reads)) db there).1 in
        record {
          fits = omega (arith, fits, long);
          counted = subst (λ (k : ℕ). as_counted k (rows_decoding (part At size reads)) ≡ Some db) (sym number)
              (subst (λ (k : ℕ). as_counted count (rows_decoding (part At k reads)) ≡ Some db) (sym long) there);
        }

    rows_there : RowsThere
    rows_there =
        let found = rows_of (head_in latest Area) (db_in rows_format Area) contents.checkpoint has.area in
        let so = rows_if (nat_le (32 + rows_size Area) (length Area)) (as_counted (rows_count Area) (rows_decoding (part 32 (rows_size Area) Area))) db found in
        rows_at (rows_size Area) (rows_count Area) (omega (arith, leb-true (32 + rows_size Area) (length Area) so.0, area_long)) so.1

    bytes_there : part At size reads ≡ rows_encoding db
    bytes_there = sym (spelled (part At size reads) (length db) db (bytes-part At size reads each) rows_there.counted)

    some_sectors : 1 ≤ whole_sectors Bytes
    some_sectors = journal_sectors geometry half reads allowed room

    -- ---- the front

    front_read : (front : Front) → IsFrontFrom contents front → IsReadByFront front geometry half reads
    front_read front from =
        let found : as_counted front.count (rows_decoding (part At front.size reads)) ≡ Some db =
        (λ i. as_counted (from.count i) (rows_decoding (part At (from.size i) reads))) ∙ rows_there.counted in
        has.area ∙ sym ((λ i. with_head (from.head i) (found i)))

    front_from : (front : Front) → 32 + front.size ≤ 512 * geometry.checkpoint → IsReadByFront front geometry half reads → IsFrontFrom contents front
    front_from front fits is =
        let so = headed (head_view front.head) (as_counted front.count (rows_decoding (part At front.size reads))) contents.checkpoint (sym is ∙ has.area) in
        let bytes = spelled (part At front.size reads) front.count db (bytes-part At front.size reads each) so.1 in
        record {
          head = so.0;
          size = omega (arith, ap length bytes, part_long front.size fits);
          count = sym (counted_rows front.count (rows_decoding (part At front.size reads)) db so.1).1;
        }

    -- ---- the journal

    scan_read : (front : Front) (reading : Reading Command) → IsFrontFrom contents front → reading ≡ sealed_reading contents
        → journal_scan command_format (limits_of front.head.version) Bytes front.head.place ≡ Ok reading
    scan_read front reading from is =
        (λ i. journal_scan command_format (limits_of (from.head i).version) Bytes (from.head i).place) ∙ scanned_as contents Bytes has.journal some_sectors
        ∙ ap (λ (r : Reading Command). Ok r) (sym is)

    scan_from : (front : Front) (reading : Reading Command) → IsFrontFrom contents front → journal_scan command_format (limits_of front.head.version) Bytes front.head.place ≡ Ok reading
        → reading ≡ sealed_reading contents
    scan_from front reading from is =
        let read = scan_read front (sealed_reading contents) from refl in
        cc

    -- ---- the rows

    pushed_same : (front : Front) (n : ℕ) → IsFrontFrom contents front → take front.size (part At n reads) ≡ take n (rows_encoding db)
    pushed_same front n from =
        ap (λ (k : ℕ). take k (part At n reads)) from.size ∙ take_both size n (drop At reads) ∙ ap (take n) bytes_there

    pushed_long : (front : Front) (first : ℕ) → IsFrontFrom contents front → first ≤ sectors_of (32 + front.size) → length (part At (512 * first - 32) reads) ≡ 512 * first - 32
    pushed_long front first from inside =
        length-part At (512 * first - 32) reads (omega (arith, room, area_inside geometry half, from.size, rows_there.fits, inside))

    rows_counted : (front : Front) → IsFrontFrom contents front → as_counted front.count (rows_decoding (part At front.size reads)) ≡ Some db
    rows_counted front from = (λ i. as_counted (from.count i) (rows_decoding (part At (from.size i) reads))) ∙ rows_there.counted

    row_bytes : (front : Front) → IsFrontFrom contents front → part At front.size reads ≡ rows_encoding db
    row_bytes front from = (λ i. part At (from.size i) reads) ∙ bytes_there

    -- ---- all rows

    all_read : (front : Front) (place : ℕ) (before after : List RowView) (sums : List ℕ) → AreAllFrom contents front place before after sums → AreAllRead geometry half reads front place before after sums
    all_read front place before after sums from = record {
      front = front_read front from.front;
      reading = sealed_reading contents;
      scanned = scan_read front (sealed_reading contents) from.front refl;
      sealed = refl;
      place = from.place;
      rows = rows_counted front from.front ∙ ap (λ (l : List RowView). Some l) (sym from.rows);
      after = from.after;
      summed = from.summed ∙ ap (sums_in (length sums) 0) (sym (row_bytes front from.front));
    }

    all_from : (front : Front) (place : ℕ) (before after : List RowView) (sums : List ℕ) → 32 + front.size ≤ 512 * geometry.checkpoint
        → AreAllRead geometry half reads front place before after sums → AreAllFrom contents front place before after sums
    all_from front place before after sums within on =
        let from = front_from front within on.front in
        let found = rows_counted front from in
        let same : on.reading ≡ sealed_reading contents = scan_from front on.reading from on.scanned in
        record {
          front = from;
          place = sym (ap (λ (r : Reading Command). r.place) same) ∙ on.place;
          rows = let same = sym on.rows ∙ found in cc;
          after = on.after ∙ ap (λ (r : Reading Command). database_after_all before r.commands) same;
          summed = on.summed ∙ ap (sums_in (length sums) 0) (row_bytes front from);
        }

    -- ---- all that is read

    pub read_on_half : (read : HalfRead) → IsHalfRead read → IsReadFrom geometry contents read → IsReadOn geometry half reads read
    read_on_half Unread is from = tt
    read_on_half (Journal journal) is from = record {
      front = front_read journal.front from.front;
      version = from.version;
      read = subst (λ (n : ℕ). IsReadUpTo journal.scanner Bytes n) (sym (ap (λ (h : Head). h.place) from.front.head))
          (read_alike contents journal.scanner from.bytes Bytes (from.version ∙ ap (λ (h : Head). h.version) from.front.head) from.has has.journal
          (journal_size geometry half reads allowed room ∙ sym from.size)
          (subst (λ (n : ℕ). IsReadUpTo journal.scanner from.bytes n) (ap (λ (h : Head). h.place) from.front.head) from.read));
    }
    read_on_half (Rows rows) is from = record {
      front = front_read rows.front from.front;
      journal = record { scanned = scan_read rows.front (reading_of rows.journal) from.front from.journal; sealed = ap (λ (r : Reading Command). r.sealed) from.journal };
      streamed = streams_same rows.front.size rows.front.count from.pushed (part At (512 * rows.first - 32) reads) rows.note.value rows.stream
          (from.long ∙ sym (pushed_long rows.front rows.first from.front is.inside))
          (from.same ∙ sym (pushed_same rows.front (512 * rows.first - 32) from.front)) from.streamed;
      summed = from.summed ∙ ap (sums_in rows.first 0) (sym (row_bytes rows.front from.front));
    }
    read_on_half (Settled settled) is from = all_read settled.front settled.place settled.note.value settled.after.value settled.sums.items from
    read_on_half (Planned planned) is from = all_read planned.front planned.place planned.note.value planned.after.value planned.sums.items from

    pub read_of_contents : (read : HalfRead) → IsHalfRead read → IsWithin geometry read → IsReadOn geometry half reads read → IsReadFrom geometry contents read
    read_of_contents Unread is within on = tt
    read_of_contents (Journal journal) is within on = record {
      front = front_from journal.front within.1 on.front;
      version = on.version;
      bytes = Bytes;
      size = journal_size geometry half reads allowed room;
      has = has.journal;
      read = on.read;
    }
    read_of_contents (Rows rows) is within on =
        let from = front_from rows.front within on.front in
        record {
          front = from;
          journal = scan_from rows.front (reading_of rows.journal) from on.journal.scanned;
          pushed = part At (512 * rows.first - 32) reads;
          long = pushed_long rows.front rows.first from is.inside;
          same = pushed_same rows.front (512 * rows.first - 32) from;
          streamed = on.streamed;
          summed = on.summed ∙ ap (sums_in rows.first 0) (row_bytes rows.front from);
        }
    read_of_contents (Settled settled) is within on = all_from settled.front settled.place settled.note.value settled.after.value settled.sums.items within on
    read_of_contents (Planned planned) is within on = all_from planned.front planned.place planned.note.value planned.after.value planned.sums.items within on

    -- such a half is a sealed one
    pub is_sealed : sealed_half geometry half reads ≡ None → ⊥
    is_sealed none =
        let some = ap (folded_in geometry half reads) has.area ∙ ap (folded_behind contents.checkpoint) (scanned_as contents Bytes has.journal some_sectors) in
        let clash = sym none ∙ some in cc
