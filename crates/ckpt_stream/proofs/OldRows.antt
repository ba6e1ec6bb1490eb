-- The rows of an area, which a stream gives of pieces.
use Rattle.std.proofs.Common.{◌≡◌, ℕ, ◌+◌, ◌-◌, ◌*◌, ◌≤◌, List, [], ◌++◌, length, take, drop, Ok, Err, Some, subst, sym, ◌∙◌, ap, arith}
use Rattle.std.specs.Prelude.{Result, OnOk, IfErr}
use Rattle.std.proofs.lemmas.List.{drop-drop, take-take, length-take, length-drop, length-append}
use Rattle.byte_lists.specs.Content.{part}
use Rattle.row_map.specs.Database.{RowView, rows_len}
use Rattle.path_records.specs.RowRecord.{rows_decoding}
use Rattle.path_records.proofs.RowsBack.{rows_read}
use Rattle.ckpt_pair.specs.Rows.{as_counted, counted_rows}
use Rattle.ckpt_pair.specs.Stream.{StreamView, HasStreamed}
use Rattle.store_open.proofs.FirstSectors.{part_in_front}
use Rattle.store_open.proofs.Feeds.{split_part}
use Rattle.store_open.specs.declared.error.OpenError.{OpenError}
use Rattle.store_open.specs.declared.error.OpenError.TheVariants.{NotAStore, Device, Pair, Journal, NoMemory}
use Rattle.path_db.specs.Command.{database_after_all}
use Rattle.store_layout.specs.declared.half.Half.{Half}
use Rattle.store_layout.specs.JournalReading.{journal_scan}
use Rattle.store_layout.specs.declared.half.Half.TheVariants.{First, Second}
use Rattle.byte_lists.specs.Sectors.{sectors_of}
use Rattle.store_layout.specs.Layout.{Geometry, image_sectors, area_at, journal_of}
use Rattle.store_layout.specs.Limits.{limits_of}
use Rattle.gate_journal.specs.Commands.{command_format}
use Rattle.gate_journal.specs.Scanning.{reading_of}
use Rattle.ckpt_pair.specs.declared.reading.Front.{Front}
use Rattle.ckpt_stream.specs.declared.old_rows.RowsRead.{RowsRead}
use Rattle.ckpt_stream.specs.declared.half_read.RowsSettled.{RowsSettled}
use Rattle.ckpt_stream.specs.Sums.{sums_in}
use Rattle.ckpt_stream.specs.OldArea.{IsReadByFront}
use Rattle.ckpt_stream.specs.OldRows.{AreStreamed, rows_in, RefusesRows, RowsRefused, GoesOnInRows}
use Rattle.ckpt_stream.specs.HalfRead.{AreRowsReadOn, AreSettledOn}

-- what was pushed, and the bytes of a window after it
pub pushed_more : (reads now pushed window : List ℕ) (area first count start : ℕ) → start ≤ 32 → 1 ≤ count → 512 * first + start ≡ 32 + (512 * first - 32)
    → pushed ≡ part (512 * area + 32) (512 * first - 32) reads → now ≡ reads → take (512 * count) window ≡ part (512 * (area + first)) (512 * count) now
    → pushed ++ take (512 * count - start) (drop start window) ≡ part (512 * area + 32) (512 * (first + count) - 32) reads
pushed_more reads now pushed window area first count start low some from pushed_is same read =
    (λ i. pushed_is i ++ piece i)
    ∙ sym (split_part (512 * area + 32) (512 * first - 32) m reads)
    ∙ ap (λ (n : ℕ). part (512 * area + 32) n reads) whole
  where
    m : ℕ
    m = 512 * count - start

    there : 512 * (area + first) + start ≡ 512 * area + 32 + (512 * first - 32)
    there = omega (arith, from)

    whole : (512 * first - 32) + (512 * count - start) ≡ 512 * (first + count) - 32
    whole = omega (arith, from, low, some)

    piece : take m (drop start window) ≡ part (512 * area + 32 + (512 * first - 32)) m reads
    piece =
        sym (part_in_front start m (512 * count) window (omega (arith, low, some)))
        ∙ ap (λ (l : List ℕ). take m (drop start l)) (read ∙ ap (part (512 * (area + first)) (512 * count)) same)
        ∙ part_in_front start m (512 * count) (drop (512 * (area + first)) reads) (omega (arith, low, some))
        ∙ ap (take m) (drop-drop start (512 * (area + first)) reads)
        ∙ ap (λ (at : ℕ). part at m reads) there

-- and how many bytes these are
pub pushed_long : (pushed window : List ℕ) (first count start : ℕ) → length pushed ≡ 512 * first - 32 → start ≤ 32 → 1 ≤ count → 512 * first + start ≡ 32 + (512 * first - 32)
    → 512 * count ≤ length window → length (pushed ++ take (512 * count - start) (drop start window)) ≡ 512 * (first + count) - 32
pushed_long pushed window first count start long low some from fits =
    omega (arith, length-append pushed (take (512 * count - start) (drop start window)), length-take (512 * count - start) (drop start window), length-drop start window, long, low, some, from, fits)

-- rows that are refused by the first bytes of them
pub rows_refused : (e : OpenError) (reads : List ℕ) (given : List RowView) (at n size count : ℕ) (stream : StreamView) → HasStreamed size count (part at n reads) given stream
    → RefusesRows given stream e → RowsRefused e (as_counted count (rows_decoding (part at size reads)))
rows_refused NotAStore reads given at n size count stream streamed refused = refused
rows_refused Device reads given at n size count stream streamed refused = tt
rows_refused (Pair e) reads given at n size count stream streamed refused =
    let first : take size (part at n reads ++ part (at + n) size reads) ≡ part at size reads =
    ap (take size) (sym (split_part at n size reads)) ∙ take-take size (n + size) (drop at reads) (omega arith) in
    ap (λ (l : List ℕ). as_counted count (rows_decoding l)) (sym first) ∙ refused size count (part at n reads) streamed (part (at + n) size reads)
rows_refused (Journal e) reads given at n size count stream streamed refused = refused
rows_refused NoMemory reads given at n size count stream streamed refused = tt

-- all rows, once as many bytes were pushed
pub rows_all : (reads pushed : List ℕ) (given : List RowView) (at n size count : ℕ) → pushed ≡ part at n reads → size ≤ n
    → as_counted count (rows_decoding (take size pushed)) ≡ Some given → as_counted count (rows_decoding (part at size reads)) ≡ Some given
rows_all reads pushed given at n size count is inside all =
    ap (λ (l : List ℕ). as_counted count (rows_decoding l)) (sym (ap (take size) is ∙ take-take size n (drop at reads) inside)) ∙ all

-- and how many bytes they have
pub rows_sized : (pushed : List ℕ) (given : List RowView) (size count : ℕ) → size ≤ length pushed → as_counted count (rows_decoding (take size pushed)) ≡ Some given → rows_len given ≡ size
rows_sized pushed given size count inside all =
    let so = counted_rows count (rows_decoding (take size pushed)) given all in
    omega (arith, (rows_read (take size pushed) given so.0).1, length-take size pushed, inside)

-- a result of which two facts hold
pub on_both : {A E : Type 0} (P Q R : Type 0) (result : Result A E) → OnOk result P → OnOk result Q → (P → Q → R) → OnOk result R
on_both P Q R (Ok x) p q so = so p q
on_both P Q R (Err e) p q so = tt

-- the result of reading on in rows
pub goes_on : (area : ℕ) (reads : List ℕ) (old new : RowsRead) (result : Result (Unit {0}) OpenError) → (AreStreamed area reads old → OnOk result (AreStreamed area reads new))
    → (AreStreamed area reads old → IfErr result (λ e. RowsRefused e (rows_in area reads old))) → GoesOnInRows area reads old new result
goes_on area reads old new (Ok done) on off = on
goes_on area reads old new (Err e) on off = off

-- all rows of a half are read
pub settled_on : (geometry : Geometry) (half : Half) (reads : List ℕ) (rows : RowsRead) (settled : RowsSettled) → settled.front ≡ rows.front → settled.place ≡ rows.journal.place
    → settled.after.value ≡ database_after_all settled.note.value rows.journal.commands.items → settled.sums.items ≡ rows.sums.items → length rows.sums.items ≡ rows.first
    → AreRowsReadOn geometry half reads rows → rows_in (area_at geometry half) reads rows ≡ Some settled.note.value → AreSettledOn geometry half reads settled
settled_on geometry half reads rows settled front place after sums counted on is = record {
  front = subst (λ (f : Front). IsReadByFront f geometry half reads) (sym front) on.front;
  reading = reading_of rows.journal;
  scanned = (λ i. journal_scan command_format (limits_of (front i).head.version) (journal_of geometry half reads) (front i).head.place) ∙ on.journal.scanned;
  sealed = on.journal.sealed;
  place = sym place;
  rows = (λ i. as_counted (front i).count (rows_decoding (part (512 * area_at geometry half + 32) (front i).size reads))) ∙ is;
  after = after;
  summed = sums ∙ on.summed ∙ sym (λ i. sums_in (number i) 0 (part (512 * area_at geometry half + 32) (front i).size reads));
}
  where
    number : length settled.sums.items ≡ rows.first
    number = ap length sums ∙ counted

-- the error of rows that are seen
pub if_refused : {A : Type 0} (result : Result A OpenError) (reads : List ℕ) (given : List RowView) (at n size count : ℕ) (stream : StreamView) → HasStreamed size count (part at n reads) given stream
    → IfErr result (RefusesRows given stream) → IfErr result (λ e. RowsRefused e (as_counted count (rows_decoding (part at size reads))))
if_refused (Ok x) reads given at n size count stream streamed refused = tt
if_refused (Err e) reads given at n size count stream streamed refused = rows_refused e reads given at n size count stream streamed refused

area_inside : (geometry : Geometry) (half : Half) → area_at geometry half + geometry.checkpoint ≤ image_sectors geometry
area_inside geometry First = omega arith
area_inside geometry Second = omega arith

-- the sectors up to the end of the rows have their bytes
pub rows_long : (geometry : Geometry) (half : Half) (reads : List ℕ) (first size : ℕ) → 512 * image_sectors geometry ≤ length reads → 32 + size ≤ 512 * geometry.checkpoint
    → first ≡ sectors_of (32 + size) → size ≤ length (part (512 * area_at geometry half + 32) (512 * first - 32) reads)
rows_long geometry half reads first size room fits is =
    omega (arith, length-take (512 * first - 32) (drop (512 * area_at geometry half + 32) reads), length-drop (512 * area_at geometry half + 32) reads, area_inside geometry half, room, fits, is)

-- nothing is pushed before the first sector is read
pub streamed_start : (area : ℕ) (reads : List ℕ) (rows : RowsRead) (front : Front) → rows.front ≡ front → rows.first ≡ 0
    → HasStreamed front.size front.count [] rows.note.value rows.stream → AreStreamed area reads rows
streamed_start area reads rows front same none is =
    subst (λ (f : Front). HasStreamed f.size f.count (part (512 * area + 32) (512 * rows.first - 32) reads) rows.note.value rows.stream) (sym same)
    (subst (λ (n : ℕ). HasStreamed front.size front.count (part (512 * area + 32) (512 * n - 32) reads) rows.note.value rows.stream) (sym none) is)
