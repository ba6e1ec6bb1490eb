use Rattle.std.proofs.Common.{◌≡◌, ℕ, ◌∙◌, ap, subst, sym, arith, Ok, Err, Result}
use Rattle.std.specs.Prelude.{IfErr}
use Rattle.std.proofs.lemmas.Result.{err_from_is_err_and}
use Rattle.byte_lists.specs.Content.{AreBytes}
use Rattle.store_layout.specs.Limits.{limits_of}
use Rattle.store_layout.specs.Journal.{IsJournal}
use Rattle.store_layout.specs.JournalReading.{journal_scan}
use Rattle.store_layout.proofs.Exports.{journal_read}
use Rattle.gate_journal.specs.declared.error.JournalError.{JournalError}
use Rattle.gate_journal.specs.declared.error.JournalError.TheVariants.{NoMemory}
use Rattle.gate_journal.specs.declared.scanner.Progress.{Progress}
use Rattle.gate_journal.specs.declared.scanner.Scan.{Scan}
use Rattle.gate_journal.specs.Commands.{command_format}
use Rattle.gate_journal.specs.Reading.{GivesJournal}
use Rattle.gate_journal.specs.Scanning.{reading_of, MayWantMemory, MeansError, PieceLeadsTo}
use Rattle.gate_journal.proofs.Ends.{scan_refused, scan_wants, piece_there}
use Rattle.gate_journal.proofs.whole.scan.Goals as goal

pub returns-in_err-scan-clause-reading : goal.returns-in_err-scan-clause-reading
returns-in_err-scan-clause-reading c =
    let made = err_from_is_err_and c.from_residual.result c.from_residual.ensures.1 in
    let e = c.in_err-scan.field-0.0 in
    let so : c.from_residual.result ≡ Err e = made.1 ∙ ap (λ (x : JournalError). Err x) made.2 in
    let each : AreBytes c.args.journal.now = λ i. omega (arith, c.type_inv.journal i) in
    let leads = c.in_err-scan.ensures.leads c.args.journal.now c.args.place each c.pieces.invariant.read
    (piece_there c.args.journal.now c.wanted-wanted.result.first c.wanted-wanted.result.count _ _ c.wanted-wanted.ensures.first c.wanted-wanted.ensures.count) in
    let means : MeansError e (limits_of c.args.version) c.args.journal.now c.args.place =
    subst (λ (v : ℕ). MeansError e (limits_of v) c.args.journal.now c.args.place) c.pieces.invariant.version leads in
    subst (λ (r : Result Scan JournalError). GivesJournal reading_of r (journal_scan command_format (limits_of c.args.version) c.args.journal.now c.args.place)) (sym so)
    (scan_refused e (limits_of c.args.version) c.args.journal.now c.args.place each c.requires.some means)

pub returns-in_err-scan-clause-memory : goal.returns-in_err-scan-clause-memory
returns-in_err-scan-clause-memory c =
    let made = err_from_is_err_and c.from_residual.result c.from_residual.ensures.1 in
    let e = c.in_err-scan.field-0.0 in
    let so : c.from_residual.result ≡ Err e = made.1 ∙ ap (λ (x : JournalError). Err x) made.2 in
    let each : AreBytes c.args.journal.now = λ i. omega (arith, c.type_inv.journal i) in
    let leads = c.in_err-scan.ensures.leads c.args.journal.now c.args.place each c.pieces.invariant.read
    (piece_there c.args.journal.now c.wanted-wanted.result.first c.wanted-wanted.result.count _ _ c.wanted-wanted.ensures.first c.wanted-wanted.ensures.count) in
    let means : MeansError e (limits_of c.args.version) c.args.journal.now c.args.place =
    subst (λ (v : ℕ). MeansError e (limits_of v) c.args.journal.now c.args.place) c.pieces.invariant.version leads in
    subst (λ (r : Result Scan JournalError). IfErr r (λ x. x ≡ NoMemory → MayWantMemory (limits_of c.args.version) c.args.journal.now c.args.place)) (sym so)
    (scan_wants e (limits_of c.args.version) c.args.journal.now c.args.place means)

pub returns-in-Done-clause-reading : goal.returns-in-Done-clause-reading
returns-in-Done-clause-reading c =
    let each : AreBytes c.args.journal.now = λ i. omega (arith, c.type_inv.journal i) in
    let leads = c.in_ok-scan.ensures.leads c.args.journal.now c.args.place each c.pieces.invariant.read
    (piece_there c.args.journal.now c.wanted-wanted.result.first c.wanted-wanted.result.count _ _ c.wanted-wanted.ensures.first c.wanted-wanted.ensures.count) in
    let at : PieceLeadsTo (Ok c.in_ok-scan.field-0) (limits_of c.args.version) c.args.journal.now c.args.place =
    subst (λ (v : ℕ). PieceLeadsTo (Ok c.in_ok-scan.field-0) (limits_of v) c.args.journal.now c.args.place) c.pieces.invariant.version leads in
    let journal : IsJournal command_format (limits_of c.args.version) c.args.journal.now c.args.place (reading_of c.in-Done.scan) =
    subst (λ (p : Progress). PieceLeadsTo (Ok p) (limits_of c.args.version) c.args.journal.now c.args.place) c.in-Done.is at in
    journal_read command_format (limits_of c.args.version) c.args.journal.now c.args.place (reading_of c.in-Done.scan) c.requires.some journal
