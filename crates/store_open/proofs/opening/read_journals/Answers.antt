-- The chosen half's journal, and the journal that continues it.
use Rattle.std.proofs.Common.{◌≡◌, refl, sym, ◌∙◌, ap, subst, Result, Ok, Err, None}
use Rattle.std.proofs.lemmas.Result.{err_from_is_err_and}
use Rattle.byte_lists.specs.Sectors.{is_open_gate}
use Rattle.row_map.specs.Database.{RowView}
use Rattle.path_db.specs.declared.command.Command.{Command}
use Rattle.sector_dev.specs.Disk.{History, reads_of}
use Rattle.sector_dev.proofs.Stretches.{honest_after, honest_before}
use Rattle.store_layout.specs.GroupReading.{JournalRefusal}
use Rattle.store_layout.specs.Journal.{Reading}
use Rattle.store_layout.specs.Layout.{other, gate_of}
use Rattle.store_layout.specs.Opening.{Opening}
use Rattle.store_layout.specs.OpeningReading.{by_checkpoint, by_journal, behind_journal, journal_from}
use Rattle.gate_journal.specs.Scanning.{reading_of}
use Rattle.ckpt_pair.specs.Reading.{checkpoint_view}
use Rattle.store_layout.specs.Geometry.{geometry_view}
use Rattle.store_open.specs.Heads.{HasHeads}
use Rattle.store_open.specs.PathStores.{store_format}
use Rattle.store_open.specs.Open.{opening_view, with_tail_seen, OpensSo, RefusesOpening}
use Rattle.store_open.specs.declared.error.OpenError.{OpenError}
use Rattle.store_open.specs.declared.opening.Found.{Found}
use Rattle.store_open.proofs.Steps.{scan_so, refused_same, room_kept}
use Rattle.store_open.proofs.opening.read_journals.Goals as goal
use Rattle.std.proofs.Common.{List}

pub returns-in_err-journal-clause-opening : goal.returns-in_err-journal-clause-opening
returns-in_err-journal-clause-opening g c honest =
    let made = err_from_is_err_and c.from_residual.result c.from_residual.ensures.1 in
    let e = c.in_err-journal.field-0.0 in
    let so : c.from_residual.result ≡ Err e = made.1 ∙ ap (λ (x : OpenError). Err x) made.2 in
    subst (λ (r : Result Found OpenError). OpensSo opening_view r (by_checkpoint store_format (geometry_view c.args.geometry) c.args.choice.half (reads_of (g.D.Device.disk c.args.device.now)) (Ok (checkpoint_view c.args.checkpoint)))) (sym so)
    (scan_so e (λ (r : Result (Reading Command) JournalRefusal). by_journal (geometry_view c.args.geometry) c.args.choice.half (checkpoint_view c.args.checkpoint) (is_open_gate (gate_of (geometry_view c.args.geometry) (other c.args.choice.half) (reads_of (g.D.Device.disk c.args.device.now)))) r
    (journal_from store_format (checkpoint_view c.args.checkpoint) (geometry_view c.args.geometry) (other c.args.choice.half) (reads_of (g.D.Device.disk c.args.device.now))))
    (journal_from store_format (checkpoint_view c.args.checkpoint) (geometry_view c.args.geometry) c.args.choice.half (reads_of (g.D.Device.disk c.args.device.now)) c.args.checkpoint.head.place) (λ refusal. refl) (c.in_err-journal.ensures.scan honest))

pub read_tail-requires-clause-room : goal.read_tail-requires-clause-room
read_tail-requires-clause-room g c = room_kept (geometry_view c.args.geometry) (g.D.Device.disk c.args.device.now) (g.D.Device.disk c.scan_journal.new.device) c.in_ok-journal.ensures.looks.keeps.sectors c.requires.room

pub read_tail-requires-clause-heads : goal.read_tail-requires-clause-heads
read_tail-requires-clause-heads g c = λ honest_mid.
    let honest = honest_before (g.D.Device.disk c.args.device.now) (g.D.Device.disk c.scan_journal.new.device) c.in_ok-journal.ensures.looks.keeps honest_mid in
    subst (λ (h : History). HasHeads (geometry_view c.args.geometry) h.now.reads c.args.choice.heads) (sym (c.in_ok-journal.ensures.looks.history honest)) (c.requires.heads honest)

pub returns-in_err-tail-clause-opening : goal.returns-in_err-tail-clause-opening
returns-in_err-tail-clause-opening g c honest =
    let made = err_from_is_err_and c.from_residual-in_err-tail.result c.from_residual-in_err-tail.ensures.1 in
    let e = c.in_err-tail.field-0.0 in
    let so : c.from_residual-in_err-tail.result ≡ Err e = made.1 ∙ ap (λ (x : OpenError). Err x) made.2 in
    let same = c.in_ok-journal.ensures.looks.history honest in
    subst (λ (r : Result Found OpenError). OpensSo opening_view r (by_checkpoint store_format (geometry_view c.args.geometry) c.args.choice.half (reads_of (g.D.Device.disk c.args.device.now)) (Ok (checkpoint_view c.args.checkpoint)))) (sym so)
    (refused_same (Opening (List RowView) Command) e _ (by_checkpoint store_format (geometry_view c.args.geometry) c.args.choice.half (reads_of (g.D.Device.disk c.args.device.now)) (Ok (checkpoint_view c.args.checkpoint)))
    (sym (ap (λ (r : Result (Reading Command) JournalRefusal). by_journal (geometry_view c.args.geometry) c.args.choice.half (checkpoint_view c.args.checkpoint) (is_open_gate (gate_of (geometry_view c.args.geometry) (other c.args.choice.half) (reads_of (g.D.Device.disk c.args.device.now)))) r
    (journal_from store_format (checkpoint_view c.args.checkpoint) (geometry_view c.args.geometry) (other c.args.choice.half) (reads_of (g.D.Device.disk c.args.device.now)))) (c.in_ok-journal.ensures.scan honest)))
    (subst (λ (h : History). RefusesOpening e (behind_journal c.in_ok-journal.journal.sealed (is_open_gate (gate_of (geometry_view c.args.geometry) (other c.args.choice.half) h.now.reads))
    (with_tail_seen (geometry_view c.args.geometry) c.args.choice.half (checkpoint_view c.args.checkpoint) (reading_of c.in_ok-journal.journal) None)
    (journal_from store_format (checkpoint_view c.args.checkpoint) (geometry_view c.args.geometry) (other c.args.choice.half) h.now.reads c.in_ok-journal.journal.place))) same
    (c.in_err-tail.ensures.opening (honest_after (g.D.Device.disk c.args.device.now) (g.D.Device.disk c.scan_journal.new.device) c.in_ok-journal.ensures.looks.keeps honest))))

pub returns-clause-opening : goal.returns-clause-opening
returns-clause-opening g c honest =
    let same = c.in_ok-journal.ensures.looks.history honest in
    ap (λ (r : Result (Reading Command) JournalRefusal). by_journal (geometry_view c.args.geometry) c.args.choice.half (checkpoint_view c.args.checkpoint) (is_open_gate (gate_of (geometry_view c.args.geometry) (other c.args.choice.half) (reads_of (g.D.Device.disk c.args.device.now)))) r
    (journal_from store_format (checkpoint_view c.args.checkpoint) (geometry_view c.args.geometry) (other c.args.choice.half) (reads_of (g.D.Device.disk c.args.device.now)))) (c.in_ok-journal.ensures.scan honest)
    ∙ subst (λ (h : History). (behind_journal c.in_ok-journal.journal.sealed (is_open_gate (gate_of (geometry_view c.args.geometry) (other c.args.choice.half) h.now.reads))
    (with_tail_seen (geometry_view c.args.geometry) c.args.choice.half (checkpoint_view c.args.checkpoint) (reading_of c.in_ok-journal.journal) None)
    (journal_from store_format (checkpoint_view c.args.checkpoint) (geometry_view c.args.geometry) (other c.args.choice.half) h.now.reads c.in_ok-journal.journal.place)) ≡ Ok (with_tail_seen (geometry_view c.args.geometry) c.args.choice.half (checkpoint_view c.args.checkpoint) (reading_of c.in_ok-journal.journal) c.in_ok-tail.tail)) same
    (c.in_ok-tail.ensures.opening (honest_after (g.D.Device.disk c.args.device.now) (g.D.Device.disk c.scan_journal.new.device) c.in_ok-journal.ensures.looks.keeps honest))
