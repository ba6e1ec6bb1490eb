-- One more piece, the end, and a refusal.
use Rattle.std.proofs.Common.{◌≡◌, ◌∙◌, ap, subst, sym, arith, Ok, Err, Result}
use Rattle.std.proofs.lemmas.Result.{err_from_is_err_and}
use Rattle.byte_lists.proofs.Contents.{bytes-part}
use Rattle.sector_dev.specs.Disk.{reads_of}
use Rattle.sector_dev.proofs.Stretches.{honest_after, keeps_then}
use Rattle.store_layout.specs.Limits.{limits_of}
use Rattle.store_layout.specs.Journal.{IsJournal}
use Rattle.store_layout.specs.Layout.{journal_of}
use Rattle.store_layout.proofs.Exports.{journal_read}
use Rattle.gate_journal.specs.declared.scanner.Progress.{Progress}
use Rattle.gate_journal.specs.Commands.{command_format}
use Rattle.gate_journal.specs.Scanning.{reading_of, PieceLeadsTo, HasFewerPiecesLeft}
use Rattle.store_layout.specs.Geometry.{geometry_view}
use Rattle.store_open.specs.declared.error.OpenError.{OpenError}
use Rattle.store_open.specs.Refusals.{error_of_journal}
use Rattle.store_open.proofs.Journals.{journal_sectors, taken, scans_refused}
use Rattle.ckpt_stream.specs.OldJournal.{ScansOn}
use Rattle.ckpt_stream.proofs.old_journal.scan_pieces.Goals as goal

pub returns-in_err-scan-clause-scan : goal.returns-in_err-scan-clause-scan
returns-in_err-scan-clause-scan g c honest place read =
    let made = err_from_is_err_and c.from_residual-in_err-scan.result c.from_residual-in_err-scan.ensures.1 in
    let e = c.in_err-scan.field-0.0 in
    let whole = g.met.D.Device.whole c.args.device.now honest in
    let reads = reads_of (g.D.Device.disk c.args.device.now) in
    let bytes = journal_of (geometry_view c.args.geometry) c.args.half reads in
    let so : c.from_residual-in_err-scan.result ≡ Err (error_of_journal e) = made.1 ∙ ap (λ (x : OpenError). Err x) made.2 in
    let means = taken (g.D.Device.disk c.args.device.now) (g.D.Device.disk c.pieces.device) (geometry_view c.args.geometry) c.args.half c.pieces.scanner _ _ _ c.args.scanner.version place _ _ _
    (g.met.D.Device.whole c.args.device.now honest) (c.pieces.invariant.history honest) c.in_err-scan.ensures c.pieces.invariant.version c.pieces.invariant.sectors
    (c.pieces.invariant.read honest place read) c.journal_at-start.ensures c.wanted-wanted.ensures.first c.wanted-wanted.ensures.count c.wanted-wanted.ensures.inside
    c.deref.ensures.value (c.in_ok-piece.ensures.read (honest_after _ _ c.pieces.invariant.keeps honest)) in
    subst (λ (r : Result Progress OpenError). ScansOn (limits_of c.args.scanner.version) bytes place r) (sym so)
    (scans_refused e (limits_of c.args.scanner.version) bytes place (bytes-part _ _ reads whole.bytes)
    (journal_sectors (geometry_view c.args.geometry) c.args.half reads c.requires.allowed (omega (arith, whole.size, c.requires.room))) means)

pub returns-in-Done-clause-scan : goal.returns-in-Done-clause-scan
returns-in-Done-clause-scan g c honest place read =
    let whole = g.met.D.Device.whole c.args.device.now honest in
    let reads = reads_of (g.D.Device.disk c.args.device.now) in
    let bytes = journal_of (geometry_view c.args.geometry) c.args.half reads in
    let at : PieceLeadsTo (Ok c.in_ok-scan.field-0) (limits_of c.args.scanner.version) bytes place = taken (g.D.Device.disk c.args.device.now) (g.D.Device.disk c.pieces.device) (geometry_view c.args.geometry) c.args.half c.pieces.scanner _ _ _ c.args.scanner.version place _ _ _
    (g.met.D.Device.whole c.args.device.now honest) (c.pieces.invariant.history honest) c.in_ok-scan.ensures c.pieces.invariant.version c.pieces.invariant.sectors
    (c.pieces.invariant.read honest place read) c.journal_at-start.ensures c.wanted-wanted.ensures.first c.wanted-wanted.ensures.count c.wanted-wanted.ensures.inside
    c.deref.ensures.value (c.in_ok-piece.ensures.read (honest_after _ _ c.pieces.invariant.keeps honest)) in
    let journal : IsJournal command_format (limits_of c.args.scanner.version) bytes place (reading_of c.in-Done.scan) =
    subst (λ (p : Progress). PieceLeadsTo (Ok p) (limits_of c.args.scanner.version) bytes place) c.in-Done.is at in
    journal_read command_format (limits_of c.args.scanner.version) bytes place (reading_of c.in-Done.scan)
    (journal_sectors (geometry_view c.args.geometry) c.args.half reads c.requires.allowed (omega (arith, whole.size, c.requires.room))) journal

pub returns-then-count-ge-READ_SECTORS-clause-scan : goal.returns-then-count-ge-READ_SECTORS-clause-scan
returns-then-count-ge-READ_SECTORS-clause-scan g c honest place read =
    let reads = reads_of (g.D.Device.disk c.args.device.now) in
    let bytes = journal_of (geometry_view c.args.geometry) c.args.half reads in
    let at : PieceLeadsTo (Ok c.in_ok-scan.field-0) (limits_of c.args.scanner.version) bytes place = taken (g.D.Device.disk c.args.device.now) (g.D.Device.disk c.pieces.device) (geometry_view c.args.geometry) c.args.half c.pieces.scanner _ _ _ c.args.scanner.version place _ _ _
    (g.met.D.Device.whole c.args.device.now honest) (c.pieces.invariant.history honest) c.in_ok-scan.ensures c.pieces.invariant.version c.pieces.invariant.sectors
    (c.pieces.invariant.read honest place read) c.journal_at-start.ensures c.wanted-wanted.ensures.first c.wanted-wanted.ensures.count c.wanted-wanted.ensures.inside
    c.deref.ensures.value (c.in_ok-piece.ensures.read (honest_after _ _ c.pieces.invariant.keeps honest)) in
    subst (λ (p : Progress). PieceLeadsTo (Ok p) (limits_of c.args.scanner.version) bytes place) c.in-More.is at

pub pieces-preserved : goal.pieces-preserved
pieces-preserved g c =
    let on = subst (λ (p : Progress). HasFewerPiecesLeft (Ok p) c.pieces.scanner) c.in-More.is c.in_ok-scan.ensures.on in
    record {
      keeps = keeps_then _ _ _ c.pieces.invariant.keeps c.in_ok-piece.ensures.looks.keeps;
      faults = c.in_ok-piece.ensures.looks.faults ∙ c.pieces.invariant.faults;
      history = λ honest. c.in_ok-piece.ensures.looks.history (honest_after _ _ c.pieces.invariant.keeps honest) ∙ c.pieces.invariant.history honest;
      sectors = on.0 ∙ c.pieces.invariant.sectors;
      version = on.1 ∙ c.pieces.invariant.version;
      count = omega (arith, c.if-count-ge-READ_SECTORS.false);
      fewer = omega (arith, on.2, c.pieces.invariant.fewer);
      read = λ honest place read.
          let reads = reads_of (g.D.Device.disk c.args.device.now) in
          let bytes = journal_of (geometry_view c.args.geometry) c.args.half reads in
          let at : PieceLeadsTo (Ok c.in_ok-scan.field-0) (limits_of c.args.scanner.version) bytes place = taken (g.D.Device.disk c.args.device.now) (g.D.Device.disk c.pieces.device) (geometry_view c.args.geometry) c.args.half c.pieces.scanner _ _ _ c.args.scanner.version place _ _ _
          (g.met.D.Device.whole c.args.device.now honest) (c.pieces.invariant.history honest) c.in_ok-scan.ensures c.pieces.invariant.version c.pieces.invariant.sectors
          (c.pieces.invariant.read honest place read) c.journal_at-start.ensures c.wanted-wanted.ensures.first c.wanted-wanted.ensures.count c.wanted-wanted.ensures.inside
          c.deref.ensures.value (c.in_ok-piece.ensures.read (honest_after _ _ c.pieces.invariant.keeps honest)) in
          subst (λ (p : Progress). PieceLeadsTo (Ok p) (limits_of c.args.scanner.version) bytes place) c.in-More.is at;
    }
