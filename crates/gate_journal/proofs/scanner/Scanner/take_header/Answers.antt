use Rattle.std.proofs.Common.{◌≡◌, ◌≤◌, ◌+◌, ◌∙◌, ap, subst, sym, refl, Ok, Err, Result}
use Rattle.std.proofs.lemmas.Result.{err_from_is_err_and}
use Rattle.store_layout.specs.Limits.{limits_of}
use Rattle.gate_journal.specs.declared.error.JournalError.{JournalError}
use Rattle.gate_journal.specs.declared.header.Header.{Header}
use Rattle.gate_journal.specs.declared.scanner.Progress.{Progress}
use Rattle.gate_journal.specs.declared.scanner.Progress.TheVariants.{More, Done}
use Rattle.gate_journal.specs.declared.scanner.Stage.{Stage}
use Rattle.gate_journal.specs.declared.scanner.Stage.TheVariants.{AtHeader, AtPayload}
use Rattle.gate_journal.specs.ScannerView.{ScannerView, IsInside}
use Rattle.gate_journal.specs.Scanning.{TakesPiece}
use Rattle.gate_journal.proofs.Payloads.{group_in_order}
use Rattle.gate_journal.proofs.Pieces.{EndsSealed, header_refused, header_of_seal, header_of_group}
use Rattle.gate_journal.proofs.scanner.Scanner.take_header.Goals as goal

pub returns-in_err-count : goal.returns-in_err-count
returns-in_err-count c =
    let made = err_from_is_err_and c.from_residual.result c.from_residual.ensures.1 in
    let view : ScannerView = record {
      sectors = c.self.inside.sectors;
      version = c.self.inside.version;
      gate = c.self.inside.gate;
      place = c.self.inside.place;
      stage = c.self.inside.stage;
      commands = c.self.inside.commands.items;
    } in
    let is : view ≡ c.args.self = c.self.view_is in
    let turn : view.stage ≡ AtHeader = ap (λ (v : ScannerView). v.stage) is ∙ c.requires.stage in
    let inside : view.gate + 2 ≤ view.sectors = subst (λ (s : Stage). IsInside s view.sectors view.gate view.place) turn c.self.invariant.0 in
    let e = c.in_err-count.field-0.0 in
    let so : c.from_residual.result ≡ Err e = made.1 ∙ ap (λ (x : JournalError). Err x) made.2 in
    subst (λ (r : Result Progress JournalError). TakesPiece c.args.self c.args.piece.now r) (sym so)
    (subst (λ (v : ScannerView). TakesPiece v c.args.piece.now (Err e)) is
    (header_refused view c.args.piece.now turn inside e c.in_err-count.ensures.memory c.in_err-count.ensures.reading))

pub invariant_of-result : goal.invariant_of-result
invariant_of-result c =
    let read = c.in_ok-count.ensures.reading ∙ ap (λ (h : Header). let r : Result Header _ = Ok h in r) c.in-Group.is in
    (group_in_order (limits_of c.self.inside.version) c.args.piece.now c.self.inside.gate c.self.inside.place c.self.inside.sectors c.in-Group.count c.in-Group.size read, c.self.invariant.1)

pub returns-in-Group : goal.returns-in-Group
returns-in-Group c =
    let view : ScannerView = record {
      sectors = c.self.inside.sectors;
      version = c.self.inside.version;
      gate = c.self.inside.gate;
      place = c.self.inside.place;
      stage = c.self.inside.stage;
      commands = c.self.inside.commands.items;
    } in
    let is : view ≡ c.args.self = c.self.view_is in
    let turn : view.stage ≡ AtHeader = ap (λ (v : ScannerView). v.stage) is ∙ c.requires.stage in
    let inside : view.gate + 2 ≤ view.sectors = subst (λ (s : Stage). IsInside s view.sectors view.gate view.place) turn c.self.invariant.0 in
    let read = c.in_ok-count.ensures.reading ∙ ap (λ (h : Header). let r : Result Header _ = Ok h in r) c.in-Group.is in
    let next : ScannerView = record view { stage = AtPayload c.in-Group.count c.in-Group.size } in
    subst (λ (v : ScannerView). TakesPiece v c.args.piece.now (Ok (More next))) is
    (header_of_group view c.args.piece.now turn inside c.in-Group.count c.in-Group.size next read refl)

pub returns-in-Seal : goal.returns-in-Seal
returns-in-Seal c =
    let view : ScannerView = record {
      sectors = c.self.inside.sectors;
      version = c.self.inside.version;
      gate = c.self.inside.gate;
      place = c.self.inside.place;
      stage = c.self.inside.stage;
      commands = c.self.inside.commands.items;
    } in
    let is : view ≡ c.args.self = c.self.view_is in
    let turn : view.stage ≡ AtHeader = ap (λ (v : ScannerView). v.stage) is ∙ c.requires.stage in
    let inside : view.gate + 2 ≤ view.sectors = subst (λ (s : Stage). IsInside s view.sectors view.gate view.place) turn c.self.invariant.0 in
    let read = c.in_ok-count.ensures.reading ∙ ap (λ (h : Header). let r : Result Header _ = Ok h in r) c.in-Seal.is in
    let end : EndsSealed c.args.self c.end.result = record {
      commands = c.end.ensures.commands;
      tail = c.end.ensures.tail;
      sealed = c.end.ensures.sealed;
      place = c.end.ensures.place;
    } in
    subst (λ (v : ScannerView). EndsSealed v c.end.result → TakesPiece v c.args.piece.now (Ok (Done c.end.result))) is
    (λ ended. header_of_seal view c.args.piece.now turn inside c.end.result ended read) end
