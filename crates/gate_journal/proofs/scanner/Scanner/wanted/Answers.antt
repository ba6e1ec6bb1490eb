use Rattle.std.proofs.Common.{◌≡◌, ℕ, ◌+◌, ◌∙◌, ap, refl}
use Rattle.store_layout.specs.Group.{payload_sectors}
use Rattle.gate_journal.specs.declared.scanner.Stage.TheVariants.{AtGate, AtHeader, AtPayload}
use Rattle.gate_journal.specs.ScannerView.{ScannerView}
use Rattle.gate_journal.proofs.Needed.{stage_needed}
use Rattle.gate_journal.proofs.scanner.Scanner.wanted.Goals as goal

pub returns-in-AtGate-clause-needed : goal.returns-in-AtGate-clause-needed
returns-in-AtGate-clause-needed c =
    let view : ScannerView = record {
      sectors = c.self.inside.sectors;
      version = c.self.inside.version;
      gate = c.self.inside.gate;
      place = c.self.inside.place;
      stage = c.self.inside.stage;
      commands = c.self.inside.commands.items;
    } in
    let is : view ≡ c.args.self.now = c.self.view_is in
    stage_needed view c.args.self.now AtGate _ is c.self.invariant.0 c.in-AtGate.is refl

pub returns-in-AtHeader-clause-needed : goal.returns-in-AtHeader-clause-needed
returns-in-AtHeader-clause-needed c =
    let view : ScannerView = record {
      sectors = c.self.inside.sectors;
      version = c.self.inside.version;
      gate = c.self.inside.gate;
      place = c.self.inside.place;
      stage = c.self.inside.stage;
      commands = c.self.inside.commands.items;
    } in
    let is : view ≡ c.args.self.now = c.self.view_is in
    stage_needed view c.args.self.now AtHeader _ is c.self.invariant.0 c.in-AtHeader.is refl

pub returns-in-AtPayload-clause-needed : goal.returns-in-AtPayload-clause-needed
returns-in-AtPayload-clause-needed c =
    let view : ScannerView = record {
      sectors = c.self.inside.sectors;
      version = c.self.inside.version;
      gate = c.self.inside.gate;
      place = c.self.inside.place;
      stage = c.self.inside.stage;
      commands = c.self.inside.commands.items;
    } in
    let is : view ≡ c.args.self.now = c.self.view_is in
    stage_needed view c.args.self.now (AtPayload c.in-AtPayload.field-0 c.in-AtPayload.size) _ is c.self.invariant.0 c.in-AtPayload.is
    (ap (λ (n : ℕ). c.self.inside.gate + 1 + n) (c.payload_sectors.ensures ∙ ap payload_sectors c.from.ensures))
