-- What a half is read as, by its front, its journal and its rows.
use Rattle.std.proofs.Common.{◌≡◌, ℕ, ◌+◌, ◌-◌, ◌*◌, ◌^◌, ◌<◌, ◌≤◌, Bool, true, false, List, [], ◌∷◌, length, min, Ok, Err, Some, None, refl, sym, ap, ◌∙◌, arith}
use Rattle.std.specs.Prelude.{Result, Option}
use Rattle.byte_lists.specs.Content.{AreBytes, part}
use Rattle.byte_lists.specs.Sectors.{sectors_of}
use Rattle.byte_lists.proofs.Contents.{bytes-part}
use Rattle.byte_lists.proofs.Padding.{length-padded}
use Rattle.sector_dev.specs.Disk.{Disk, IsHonest, reads_of}
use Rattle.path_db.specs.declared.command.Command.{Command}
use Rattle.row_map.specs.Database.{RowView, rows_len}
use Rattle.path_db.specs.Command.{database_after, database_after_all}
use Rattle.path_records.specs.RowRecord.{rows_encoding, rows_decoding}
use Rattle.path_records.proofs.RowsBack.{rows_counted, rows_spelled}
use Rattle.store_layout.specs.declared.half.Half.{Half}
use Rattle.store_layout.specs.declared.half.Half.TheVariants.{First, Second}
use Rattle.store_layout.specs.Checkpoint.{Checkpoint, Head, CanBeCheckpoint, checkpoint_bytes, checkpoint_encoding, checkpoint_size}
use Rattle.store_layout.specs.CheckpointReading.{checkpoint_in}
use Rattle.store_layout.specs.GroupReading.{JournalRefusal}
use Rattle.store_layout.specs.Journal.{Reading}
use Rattle.store_layout.specs.JournalReading.{journal_scan}
use Rattle.store_layout.specs.Layout.{Geometry, area_at, area_of, journal_of, image_sectors}
use Rattle.store_layout.specs.Limits.{limits_of, latest}
use Rattle.store_layout.specs.StoreFormat.{db_after}
use Rattle.gate_journal.specs.declared.error.JournalError.TheVariants as journal
use Rattle.gate_journal.specs.declared.scanner.Scan.{Scan}
use Rattle.gate_journal.specs.Commands.{command_format}
use Rattle.gate_journal.specs.Scanning.{reading_of}
use Rattle.ckpt_pair.specs.Reading.{with_head}
use Rattle.ckpt_pair.specs.Checkpoint.{written_checkpoint}
use Rattle.ckpt_pair.specs.Rows.{rows_format, as_counted, counted_rows}
use Rattle.ckpt_stream.specs.Rewriting.{RewriteView, untaken, untaken_len}
use Rattle.store_open.specs.PathStores.{store_format}
use Rattle.store_open.specs.declared.error.OpenError.{OpenError}
use Rattle.store_open.specs.declared.error.OpenError.TheVariants.{NotAStore, Device, Pair, Journal, NoMemory}
use Rattle.store_open.specs.declared.error.SealedError.{SealedError}
use Rattle.store_open.specs.declared.error.SealedError.TheVariants.{Fault, Damaged, NoMemory as SealedNoMemory}
use Rattle.store_open.specs.Refusals.{ScansSo}
use Rattle.store_open.specs.Sealed.{SealedHalf, folded_by, folded_behind, folded_in, sealed_half, sealed_error_of}
use Rattle.ckpt_stream.specs.Merge.{MergeView, IsReady}
use Rattle.ckpt_stream.specs.Beginning.{checkpoint_from, RewritesCheckpoint, MakesFrom, IsMergeOf, MergesSealed}
use Rattle.ckpt_stream.specs.OldArea.{FrontSo}
use Rattle.ckpt_stream.specs.Sums.{sums_in, AreSummed}
use Rattle.ckpt_stream.specs.OldRows.{RowsRefused}
use Rattle.ckpt_stream.proofs.Looks.{Stays, at_start}
use Rattle.ckpt_stream.specs.HalfRead.{RefusesHalf}

-- ---- the fold

pub folded_rows : (rows : List RowView) (commands : List Command) → db_after store_format rows commands ≡ database_after_all rows commands
unfolding database_after_all
folded_rows rows [] = refl
folded_rows rows (command ∷ commands) = folded_rows (database_after rows command) commands

-- ---- what the half is

-- The front and the journal are read.
abbrev pub Area : Geometry → Half → List ℕ → Head → Option (List RowView) → Type 0
Area geometry half image head found = checkpoint_in rows_format latest (area_of geometry half image) ≡ with_head head found

abbrev pub scan_in : Geometry → Half → List ℕ → Head → Result (Reading Command) JournalRefusal
scan_in geometry half image head = journal_scan command_format (limits_of head.version) (journal_of geometry half image) head.place

pub half_read : (geometry : Geometry) (half : Half) (image : List ℕ) (head : Head) (found : Option (List RowView)) (rows : List RowView) (reading : Reading Command) (place : ℕ) (after : List RowView)
    → Area geometry half image head found → found ≡ Some rows → scan_in geometry half image head ≡ Ok reading → reading.sealed ≡ true
    → reading.place ≡ place → after ≡ database_after_all rows reading.commands
    → sealed_half geometry half image ≡ Some (record { head = head; place = place; rows = after })
half_read geometry half image head found rows reading place after area is scanned sealed there folded =
    ap (folded_in geometry half image) (area ∙ ap (with_head head) is)
    ∙ ap (folded_behind (record { head = head; db = rows })) scanned
    ∙ ap (λ (b : Bool). folded_by b (record { head = head; db = rows }) reading) sealed
    ∙ ap (λ (l : List RowView). let o : Option SealedHalf = Some (record { head = head; place = reading.place; rows = l }) in o) (folded_rows rows reading.commands ∙ sym folded)
    ∙ ap (λ (n : ℕ). let o : Option SealedHalf = Some (record { head = head; place = n; rows = after }) in o) there

-- no rows, or no journal
none_of_rows : (geometry : Geometry) (half : Half) (image : List ℕ) (head : Head) (found : Option (List RowView)) → Area geometry half image head found → found ≡ None
    → sealed_half geometry half image ≡ None
none_of_rows geometry half image head found area is = ap (folded_in geometry half image) (area ∙ ap (with_head head) is)

none_of_scan : (geometry : Geometry) (half : Half) (image : List ℕ) (head : Head) (found : Option (List RowView)) (refusal : JournalRefusal) → Area geometry half image head found
    → scan_in geometry half image head ≡ Err refusal → sealed_half geometry half image ≡ None
none_of_scan geometry half image head None refusal area scanned = ap (folded_in geometry half image) area
none_of_scan geometry half image head (Some rows) refusal area scanned =
    ap (folded_in geometry half image) area ∙ ap (folded_behind (record { head = head; db = rows })) scanned

pub none_unsealed : (geometry : Geometry) (half : Half) (image : List ℕ) (head : Head) (found : Option (List RowView)) (scan : Scan) → Area geometry half image head found
    → scan_in geometry half image head ≡ Ok (reading_of scan) → scan.sealed ≡ false → sealed_half geometry half image ≡ None
none_unsealed geometry half image head None scan area scanned unsealed = ap (folded_in geometry half image) area
none_unsealed geometry half image head (Some rows) scan area scanned unsealed =
    ap (folded_in geometry half image) area
    ∙ ap (folded_behind (record { head = head; db = rows })) scanned
    ∙ ap (λ (b : Bool). folded_by b (record { head = head; db = rows }) (reading_of scan)) unsealed

-- ---- each way out

-- the half is none, unless the device failed or memory ran out
abbrev pub IsNoneFor : OpenError → Option SealedHalf → Type 0
IsNoneFor NotAStore reading = ⊥
IsNoneFor Device reading = Unit {0}
IsNoneFor (Pair e) reading = reading ≡ None
IsNoneFor (Journal e) reading = reading ≡ None
IsNoneFor NoMemory reading = Unit {0}

pub front_none : (e : OpenError) (geometry : Geometry) (half : Half) (image : List ℕ) → FrontSo (Err e) geometry half image → IsNoneFor e (sealed_half geometry half image)
front_none NotAStore geometry half image so = so
front_none Device geometry half image so = tt
front_none (Pair e) geometry half image so = ap (folded_in geometry half image) so.is
front_none (Journal e) geometry half image so = absurd so
front_none NoMemory geometry half image so = tt

pub scan_none : (e : OpenError) (geometry : Geometry) (half : Half) (image : List ℕ) (head : Head) (found : Option (List RowView)) → Area geometry half image head found
    → ScansSo (Err e) (scan_in geometry half image head) → IsNoneFor e (sealed_half geometry half image)
scan_none NotAStore geometry half image head found area so = so
scan_none Device geometry half image head found area so = tt
scan_none (Pair e) geometry half image head found area so = absurd so
scan_none (Journal journal.NoMemory) geometry half image head found area so = absurd (so.0 refl)
scan_none (Journal journal.BadHeader) geometry half image head found area so = none_of_scan geometry half image head found _ area so.1
scan_none (Journal journal.BadRecord) geometry half image head found area so = none_of_scan geometry half image head found _ area so.1
scan_none (Journal (journal.Gap place)) geometry half image head found area so = none_of_scan geometry half image head found _ area so.1
scan_none (Journal journal.PastEnd) geometry half image head found area so = none_of_scan geometry half image head found _ area so.1
scan_none NoMemory geometry half image head found area so = tt

pub rows_none : (e : OpenError) (geometry : Geometry) (half : Half) (image : List ℕ) (head : Head) (found : Option (List RowView)) → Area geometry half image head found
    → RowsRefused e found → IsNoneFor e (sealed_half geometry half image)
rows_none NotAStore geometry half image head found area so = so
rows_none Device geometry half image head found area so = tt
rows_none (Pair e) geometry half image head found area so = none_of_rows geometry half image head found area so
rows_none (Journal e) geometry half image head found area so = absurd so
rows_none NoMemory geometry half image head found area so = tt

-- an error of reading a half
pub refused_half : (e : OpenError) (geometry : Geometry) (half : Half) (reads : List ℕ) → IsNoneFor e (sealed_half geometry half reads) → RefusesHalf geometry half reads (sealed_error_of e)
refused_half NotAStore geometry half reads so = absurd so
refused_half Device geometry half reads so = tt
refused_half (Pair e) geometry half reads so = so
refused_half (Journal e) geometry half reads so = so
refused_half NoMemory geometry half reads so = tt

-- a half that is none has no checkpoint that fits
pub refused_merges : (e : SealedError) (geometry : Geometry) (half : Half) (epoch : ℕ) (disk : Disk) → (IsHonest disk → RefusesHalf geometry half (reads_of disk) e)
    → MergesSealed geometry half epoch (Err e) disk
refused_merges Fault geometry half epoch disk so = tt
refused_merges SealedNoMemory geometry half epoch disk so = tt
refused_merges Damaged geometry half epoch disk so = λ honest sealed is fits. let clash = sym (so honest) ∙ is in cc

-- a half that only was read since
pub merges_at_start : (geometry : Geometry) (half : Half) (epoch : ℕ) (old new : Disk) (result : Result MergeView SealedError) → Stays old new
    → MergesSealed geometry half epoch result new → MergesSealed geometry half epoch result old
merges_at_start geometry half epoch old new (Ok merge) stays is = record {
  sealed = is.sealed;
  reads = at_start (λ (reads : List ℕ). sealed_half geometry half reads ≡ Some is.sealed) old new stays is.reads;
  rows = is.rows;
  place = is.place;
  epoch_is = is.epoch_is;
  can = is.can;
  fits = is.fits;
  inside = is.inside;
  len = is.len;
  ready = is.ready;
  makes = at_start (λ (reads : List ℕ). (before : Checkpoint (List RowView)) → checkpoint_in rows_format latest (area_of geometry half reads) ≡ Ok before → MakesFrom merge before) old new stays is.makes;
}
merges_at_start geometry half epoch old new (Err Fault) stays is = tt
merges_at_start geometry half epoch old new (Err SealedNoMemory) stays is = tt
merges_at_start geometry half epoch old new (Err Damaged) stays is =
    at_start (λ (reads : List ℕ). (sealed : SealedHalf) → sealed_half geometry half reads ≡ Some sealed → ¬ (checkpoint_size rows_format (checkpoint_from epoch sealed) ≤ 512 * geometry.checkpoint)) old new stays is

-- a plan of more bytes than an area has
pub large_merges : (geometry : Geometry) (half : Half) (epoch : ℕ) (disk : Disk) (ours : SealedHalf) (size : ℕ) → (IsHonest disk → sealed_half geometry half (reads_of disk) ≡ Some ours)
    → size ≡ min (rows_len ours.rows) (2 ^ 64 - 1) → 512 * geometry.checkpoint - 32 < size → MergesSealed geometry half epoch (Err Damaged) disk
large_merges geometry half epoch disk ours size read is large honest sealed found fits =
    let some = sym (read honest) ∙ found in
    let same : ours ≡ sealed = cc in
    let len = ap (λ (s : SealedHalf). length (rows_encoding s.rows)) same in
    omega (arith, is, large, len, rows_counted ours.rows, fits)

-- ---- a merge that is begun

area_inside : (geometry : Geometry) (half : Half) → area_at geometry half + geometry.checkpoint ≤ image_sectors geometry
area_inside geometry First = omega arith
area_inside geometry Second = omega arith

-- the rows are on the device
pub area_room : (geometry : Geometry) (half : Half) (at size sectors : ℕ) → at ≡ area_at geometry half → 32 + size ≤ 512 * geometry.checkpoint → image_sectors geometry ≤ sectors
    → 512 * at + 32 + size ≤ 512 * sectors
area_room geometry half at size sectors is fits room = omega (arith, area_inside geometry half, is, fits, room)

-- the bytes of rows that were read are their records
pub rows_bytes : (reads : List ℕ) (at size count : ℕ) (rows : List RowView) → AreBytes reads → as_counted count (rows_decoding (part at size reads)) ≡ Some rows
    → part at size reads ≡ rows_encoding rows
rows_bytes reads at size count rows each is =
    sym (rows_spelled (part at size reads) rows (bytes-part at size reads each) (counted_rows count (rows_decoding (part at size reads)) rows is).0).0

-- the rows of the checkpoint are those that were read
rows_of : (head : Head) (rows : List RowView) (old : Checkpoint (List RowView)) → with_head head (Some rows) ≡ Ok old → rows ≡ old.db
rows_of head rows old is =
    let same : record { head = head; db = rows } ≡ old = cc in
    ap (λ (c : Checkpoint (List RowView)). c.db) same

-- how many bytes a checkpoint has, and how many sectors these take
bytes_len : (epoch place : ℕ) (rows : List RowView) → length (checkpoint_bytes rows_format (written_checkpoint epoch place rows)) ≡ 32 + rows_len rows
bytes_len epoch place rows =
    let size : length (checkpoint_bytes rows_format (written_checkpoint epoch place rows)) ≡ 32 + length (rows_encoding rows) = omega arith in
    omega (arith, size, rows_counted rows)

pub sectors_len : (epoch place : ℕ) (rows : List RowView) (n : ℕ) → n ≡ sectors_of (32 + rows_len rows)
    → 512 * n ≡ length (checkpoint_encoding rows_format (written_checkpoint epoch place rows))
sectors_len epoch place rows n is =
    omega (arith, is, length-padded (checkpoint_bytes rows_format (written_checkpoint epoch place rows)), bytes_len epoch place rows)

module _ (geometry : Geometry) (half : Half) (epoch : ℕ) (disk : Disk) (head : Head) (at size count : ℕ) (rows after : List RowView) (place : ℕ) (commands : List Command) (rewrite made : RewriteView) (sums : List ℕ)
    (area : IsHonest disk → Area geometry half (reads_of disk) head (as_counted count (rows_decoding (part at size (reads_of disk)))))
    (read : IsHonest disk → as_counted count (rows_decoding (part at size (reads_of disk))) ≡ Some rows)
    (each : IsHonest disk → AreBytes (reads_of disk)) (folded : after ≡ database_after_all rows commands) (rewrites : RewritesCheckpoint epoch place rows commands rewrite)
    (same : IsHonest disk → untaken made (part at size (reads_of disk)) ≡ untaken rewrite (part at size (reads_of disk)))
    (summed : IsHonest disk → AreSummed sums (part at size (reads_of disk)))
  where
    makes_from : (old : Checkpoint (List RowView)) → rows_len rows ≡ size → IsHonest disk
        → checkpoint_in rows_format latest (area_of geometry half (reads_of disk)) ≡ Ok old
        → MakesFrom (record { rewrite = made; size = size; sums = sums; rows = after; epoch = epoch; place = place }) old
    makes_from old sized honest is =
        let db : rows ≡ old.db = rows_of head rows old (sym (area honest ∙ ap (with_head head) (read honest)) ∙ is) in
        let bytes : part at size (reads_of disk) ≡ rows_encoding old.db =
        rows_bytes (reads_of disk) at size count rows (each honest) (read honest) ∙ ap rows_encoding db in
        record {
          size = omega (arith, sized, rows_counted rows, ap (λ (l : List RowView). length (rows_encoding l)) db);
          makes =
              ap (untaken made) (sym bytes)
              ∙ same honest
              ∙ ap (untaken rewrite) (bytes ∙ ap rows_encoding (sym db))
              ∙ rewrites.makes
              ∙ ap (λ (l : List RowView). checkpoint_bytes rows_format (written_checkpoint epoch place l)) (sym folded);
          sums = summed honest ∙ ap (sums_in (length sums) 0) bytes;
        }

    pub begun : rows_len rows ≡ size → (IsHonest disk → sealed_half geometry half (reads_of disk) ≡ Some (record { head = head; place = place; rows = after }))
        → CanBeCheckpoint rows_format (written_checkpoint epoch place after)
        → 32 + rows_len after ≤ 512 * geometry.checkpoint → 32 + size ≤ 512 * geometry.checkpoint
        → untaken_len made ≡ untaken_len rewrite → IsReady made
        → IsMergeOf geometry half epoch disk (record { rewrite = made; size = size; sums = sums; rows = after; epoch = epoch; place = place })
    begun sized sealed can fits inside len ready = record {
      sealed = record { head = head; place = place; rows = after };
      reads = sealed;
      rows = refl;
      place = refl;
      epoch_is = refl;
      can = can;
      fits = omega (arith, fits, rows_counted after);
      inside = inside;
      len = omega (arith, len, rewrites.len, bytes_len epoch place after, ap rows_len folded);
      ready = ready;
      makes = λ honest old is. makes_from old sized honest is;
    }
