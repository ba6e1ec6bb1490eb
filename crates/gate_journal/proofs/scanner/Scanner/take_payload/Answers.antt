use Rattle.std.proofs.Common.{◌≡◌, ℕ, ◌+◌, ◌∙◌, ap, subst, sym, refl, Ok, Err, Result}
use Rattle.std.proofs.lemmas.Result.{err_from_is_err_and}
use Rattle.store_layout.specs.Group.{payload_sectors}
use Rattle.gate_journal.specs.declared.error.JournalError.{JournalError}
use Rattle.gate_journal.specs.declared.scanner.Progress.{Progress}
use Rattle.gate_journal.specs.declared.scanner.Progress.TheVariants.{More}
use Rattle.gate_journal.specs.declared.scanner.Stage.{Stage}
use Rattle.gate_journal.specs.declared.scanner.Stage.TheVariants.{AtGate, AtPayload}
use Rattle.gate_journal.specs.ScannerView.{ScannerView, IsInside}
use Rattle.gate_journal.specs.Scanning.{TakesPiece}
use Rattle.gate_journal.proofs.Pieces.{payload_was_refused, payload_was_read}
use Rattle.gate_journal.proofs.scanner.Scanner.take_payload.Goals as goal

pub returns-in_err-read_payload : goal.returns-in_err-read_payload
returns-in_err-read_payload c =
    let made = err_from_is_err_and c.from_residual.result c.from_residual.ensures.1 in
    let view : ScannerView = record {
      sectors = c.self.inside.sectors;
      version = c.self.inside.version;
      gate = c.self.inside.gate;
      place = c.self.inside.place;
      stage = c.self.inside.stage;
      commands = c.self.inside.commands.items;
    } in
    let is : view ≡ c.args.self = c.self.view_is in
    let turn : view.stage ≡ AtPayload c.args.count c.args.size = ap (λ (v : ScannerView). v.stage) is ∙ c.requires.stage in
    let inside : IsInside (AtPayload c.args.count c.args.size) view.sectors view.gate view.place =
    subst (λ (s : Stage). IsInside s view.sectors view.gate view.place) turn c.self.invariant.0 in
    let e = c.in_err-read_payload.field-0.0 in
    let so : c.from_residual.result ≡ Err e = made.1 ∙ ap (λ (x : JournalError). Err x) made.2 in
    subst (λ (r : Result Progress JournalError). TakesPiece c.args.self c.args.piece.now r) (sym so)
    (subst (λ (v : ScannerView). TakesPiece v c.args.piece.now (Err e)) is
    (payload_was_refused view c.args.piece.now c.args.count c.args.size turn inside e c.in_err-read_payload.ensures.reading c.in_err-read_payload.ensures.memory))

pub returns : goal.returns
returns c =
    let view : ScannerView = record {
      sectors = c.self.inside.sectors;
      version = c.self.inside.version;
      gate = c.self.inside.gate;
      place = c.self.inside.place;
      stage = c.self.inside.stage;
      commands = c.self.inside.commands.items;
    } in
    let is : view ≡ c.args.self = c.self.view_is in
    let turn : view.stage ≡ AtPayload c.args.count c.args.size = ap (λ (v : ScannerView). v.stage) is ∙ c.requires.stage in
    let inside : IsInside (AtPayload c.args.count c.args.size) view.sectors view.gate view.place =
    subst (λ (s : Stage). IsInside s view.sectors view.gate view.place) turn c.self.invariant.0 in
    let appended = c.in_ok-read_payload.ensures.reading in
    let next : ScannerView = record {
      sectors = c.self.inside.sectors;
      version = c.self.inside.version;
      gate = c.self.inside.gate + 1 + c.payload_sectors.result;
      place = c.self.inside.place + c.from-2.result;
      stage = AtGate;
      commands = c.read_payload.new.commands.items;
    } in
    subst (λ (v : ScannerView). TakesPiece v c.args.piece.now (Ok (More next))) is
    (payload_was_read view c.args.piece.now c.args.count c.args.size turn inside appended.0 next appended.1 refl refl
    (ap (λ (n : ℕ). c.self.inside.gate + 1 + n) (c.payload_sectors.ensures ∙ ap payload_sectors c.from.ensures))
    (ap (λ (n : ℕ). c.self.inside.place + n) c.from-2.ensures) refl appended.2)
