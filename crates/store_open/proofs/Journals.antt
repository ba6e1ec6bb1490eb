-- A journal that is read from a device, piece by piece.
use Rattle.std.proofs.Common.{◌≡◌, ℕ, ◌+◌, ◌*◌, ◌≤◌, List, length, take, drop, Result, Err, sym, ◌∙◌, ap, subst, arith}
use Rattle.std.proofs.lemmas.List.{drop-drop}
use Rattle.byte_lists.specs.Content.{AreBytes, part}
use Rattle.byte_lists.specs.Sectors.{whole_sectors}
use Rattle.byte_lists.proofs.Contents.{length-part, bytes-part}
use Rattle.sector_dev.specs.Disk.{History, Disk, IsWhole, reads_of}
use Rattle.store_layout.specs.declared.half.Half.{Half}
use Rattle.store_layout.specs.declared.half.Half.TheVariants.{First, Second}
use Rattle.store_layout.specs.Limits.{Limits, limits_of}
use Rattle.store_layout.specs.JournalReading.{journal_scan}
use Rattle.store_layout.specs.Layout.{Geometry, IsGeometry, image_sectors, journal_at, journal_of}
use Rattle.store_layout.proofs.Exports.{journal_refused}
use Rattle.gate_journal.specs.declared.error.JournalError.{JournalError}
use Rattle.gate_journal.specs.declared.error.JournalError.TheVariants.{NoMemory, BadHeader, BadRecord, Gap, PastEnd}
use Rattle.gate_journal.specs.declared.scanner.Progress.{Progress}
use Rattle.gate_journal.specs.Commands.{command_format}
use Rattle.gate_journal.specs.ScannerView.{ScannerView}
use Rattle.gate_journal.specs.Scanning.{first_wanted, count_wanted, IsReadUpTo, HasPiece, TakesPiece, MeansError, PieceLeadsTo}
use Rattle.store_open.specs.Refusals.{error_of_journal, ScansSo}
use Rattle.store_open.proofs.FirstSectors.{part_in_front}

-- a journal is within the device
journal_inside : (geometry : Geometry) (half : Half) → journal_at geometry half + geometry.journal ≤ image_sectors geometry
journal_inside geometry First = omega arith
journal_inside geometry Second = omega arith

module _ (geometry : Geometry) (half : Half) (reads : List ℕ) (allowed : IsGeometry geometry) (room : 512 * image_sectors geometry ≤ length reads) where
  pub journal_sectors : 1 ≤ whole_sectors (journal_of geometry half reads)
  journal_sectors =
      let long = length-part (512 * journal_at geometry half) (512 * geometry.journal) reads (omega (arith, room, journal_inside geometry half)) in
      omega (arith, long, allowed)

  pub journal_size : whole_sectors (journal_of geometry half reads) ≡ geometry.journal
  journal_size =
      let long = length-part (512 * journal_at geometry half) (512 * geometry.journal) reads (omega (arith, room, journal_inside geometry half)) in
      omega (arith, long)

-- a piece of a journal is that part of the device
pub piece_there : (reads piece : List ℕ) (place start sectors first count first_there count_there : ℕ) → start ≡ place → first ≡ first_there → count ≡ count_there → first + count ≤ sectors
    → piece ≡ part (512 * (start + first)) (512 * count) reads → part (512 * first_there) (512 * count_there) (part (512 * place) (512 * sectors) reads) ≡ piece
piece_there reads piece place start sectors first count first_there count_there starts one other inside is =
    (λ i. part (512 * sym one i) (512 * sym other i) (part (512 * sym starts i) (512 * sectors) reads))
    ∙ part_in_front (512 * first) (512 * count) (512 * sectors) (drop (512 * start) reads) (omega (arith, inside))
    ∙ ap (take (512 * count)) (drop-drop (512 * first) (512 * start) reads)
    ∙ ap (λ (at : ℕ). part at (512 * count) reads) at
    ∙ sym is
  where
    at : 512 * start + 512 * first ≡ 512 * (start + first)
    at = omega arith

-- the state after a piece that was taken
pub lead : (scanner : ScannerView) (piece : List ℕ) (result : Result Progress JournalError) (version : ℕ) (bytes : List ℕ) (start : ℕ) → TakesPiece scanner piece result → scanner.version ≡ version
    → AreBytes bytes → IsReadUpTo scanner bytes start → HasPiece scanner bytes piece → PieceLeadsTo result (limits_of version) bytes start
lead scanner piece result version bytes start takes is each read has =
    subst (λ (v : ℕ). PieceLeadsTo result (limits_of v) bytes start) is (takes.leads bytes start each read has)

-- the error of a piece is the error of the scan
pub scans_refused : (e : JournalError) (limits : Limits) (bytes : List ℕ) (start : ℕ) → AreBytes bytes → 1 ≤ whole_sectors bytes → MeansError e limits bytes start
    → ScansSo (Err (error_of_journal e)) (journal_scan command_format limits bytes start)
scans_refused NoMemory limits bytes start each some is = tt
scans_refused BadHeader limits bytes start each some is = (λ same. cc, journal_refused command_format limits bytes each start _ some is)
scans_refused BadRecord limits bytes start each some is = (λ same. cc, journal_refused command_format limits bytes each start _ some is)
scans_refused (Gap place) limits bytes start each some is = (λ same. cc, journal_refused command_format limits bytes each start _ some is)
scans_refused PastEnd limits bytes start each some is = (λ same. cc, journal_refused command_format limits bytes each start _ some is)

-- The state after a piece that was read from a device whose contents are those at the start.
pub taken : (start mid : Disk) (geometry : Geometry) (half : Half) (scanner : ScannerView) (piece items : List ℕ) (result : Result Progress JournalError) (version place sector first count : ℕ)
    → IsWhole start → mid.history ≡ start.history → TakesPiece scanner piece result → scanner.version ≡ version → scanner.sectors ≡ geometry.journal
    → IsReadUpTo scanner (journal_of geometry half (reads_of start)) place
    → sector ≡ journal_at geometry half → first ≡ first_wanted scanner → count ≡ count_wanted scanner → first + count ≤ scanner.sectors
    → piece ≡ items → items ≡ part (512 * (sector + first)) (512 * count) (reads_of mid) → PieceLeadsTo result (limits_of version) (journal_of geometry half (reads_of start)) place
taken start mid geometry half scanner piece items result version place sector first count whole same takes is sectors read sector_is first_is count_is inside piece_is items_are =
    lead scanner piece result version (journal_of geometry half (reads_of start)) place takes is
    (bytes-part (512 * journal_at geometry half) (512 * geometry.journal) (reads_of start) whole.bytes) read
    (piece_there (reads_of start) piece (journal_at geometry half) sector geometry.journal first count (first_wanted scanner) (count_wanted scanner) sector_is first_is count_is (omega (arith, inside, sectors))
    (piece_is ∙ items_are ∙ ap (λ (h : History). part (512 * (sector + first)) (512 * count) h.now.reads) same))
