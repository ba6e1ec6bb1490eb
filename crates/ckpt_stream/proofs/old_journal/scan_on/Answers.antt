-- A journal that is read to its end, sealed or not.
use Rattle.std.proofs.Common.{◌≡◌, ℕ, ◌+◌, ◌*◌, ◌∙◌, true, false, ap, subst, sym, rules, Ok}
use Rattle.std.specs.Prelude.{Result}
use Rattle.sector_dev.specs.Disk.{reads_of}
use Rattle.path_db.specs.declared.command.Command.{Command}
use Rattle.store_layout.specs.GroupReading.{JournalRefusal}
use Rattle.store_layout.specs.Journal.{Reading}
use Rattle.store_layout.specs.JournalReading.{journal_scan}
use Rattle.store_layout.specs.Layout.{area_at, journal_of}
use Rattle.store_layout.specs.Limits.{limits_of}
use Rattle.store_layout.specs.Geometry.{geometry_view}
use Rattle.gate_journal.specs.declared.scanner.Progress.{Progress}
use Rattle.gate_journal.specs.declared.scanner.Scan.{Scan}
use Rattle.gate_journal.specs.Commands.{command_format}
use Rattle.gate_journal.specs.Scanning.{reading_of}
use Rattle.ckpt_pair.specs.declared.reading.Front.{Front}
use Rattle.ckpt_pair.specs.Heads.{head_view}
use Rattle.byte_lists.specs.Content.{part}
use Rattle.ckpt_stream.specs.Sums.{sums_in}
use Rattle.ckpt_stream.specs.OldArea.{IsReadByFront}
use Rattle.ckpt_stream.specs.OldJournal.{ScansOn}
use Rattle.ckpt_stream.proofs.Begun.{none_unsealed}
use Rattle.ckpt_stream.proofs.OldRows.{streamed_start}
use Rattle.ckpt_stream.proofs.old_journal.scan_on.Goals as goal

pub returns-then-not-scan-clause-reads : goal.returns-then-not-scan-clause-reads
returns-then-not-scan-clause-reads g c honest on =
    let geometry = geometry_view c.args.geometry in
    let reads = reads_of (g.D.Device.disk c.args.device.now) in
    let bytes = journal_of geometry c.args.half reads in
    let head = head_view c.args.journal.front.head in
    let unsealed : c.in-Done.scan.sealed ≡ false = search (rules, c.if-not-scan.true) in
    none_unsealed geometry c.args.half reads head _ c.in-Done.scan on.front
    (subst (λ (v : ℕ). journal_scan command_format (limits_of v) bytes head.place ≡ Ok (reading_of c.in-Done.scan)) on.version
    (subst (λ (p : Progress). ScansOn (limits_of c.args.journal.scanner.version) bytes head.place (Ok p)) c.in-Done.is (c.in_ok-scanner.ensures.scan honest head.place on.read)))
    unsealed

pub returns-else-not-scan-clause-reads : goal.returns-else-not-scan-clause-reads
returns-else-not-scan-clause-reads g c honest on =
    let geometry = geometry_view c.args.geometry in
    let reads = reads_of (g.D.Device.disk c.args.device.now) in
    let bytes = journal_of geometry c.args.half reads in
    let head = head_view c.args.journal.front.head in
    let sealed : c.in-Done.scan.sealed ≡ true = search (rules, c.if-not-scan.false) in
    let front = c.start_rows.ensures.front in
    let journal = c.start_rows.ensures.journal in
    let scanned : journal_scan command_format (limits_of head.version) bytes head.place ≡ Ok (reading_of c.in-Done.scan) =
    subst (λ (v : ℕ). journal_scan command_format (limits_of v) bytes head.place ≡ Ok (reading_of c.in-Done.scan)) on.version
    (subst (λ (p : Progress). ScansOn (limits_of c.args.journal.scanner.version) bytes head.place (Ok p)) c.in-Done.is (c.in_ok-scanner.ensures.scan honest head.place on.read)) in
    record {
      front = subst (λ (f : Front). IsReadByFront f geometry c.args.half reads) (sym front) on.front;
      journal = record {
        scanned = (λ i. journal_scan command_format (limits_of (front i).head.version) bytes (front i).head.place) ∙ scanned
            ∙ ap (λ (s : Scan). let r : Result (Reading Command) JournalRefusal = Ok (reading_of s) in r) (sym journal);
        sealed = ap (λ (s : Scan). s.sealed) journal ∙ sealed;
      };
      streamed = streamed_start (area_at geometry c.args.half) reads c.start_rows.result c.args.journal.front front c.start_rows.ensures.first c.start_rows.ensures.none;
      summed = c.start_rows.ensures.sums
          ∙ sym (ap (λ (n : ℕ). sums_in n 0 (part (512 * area_at geometry c.args.half + 32) c.start_rows.result.front.size reads)) c.start_rows.ensures.first);
    }
