-- Each way out: the half is refused, there is no tail, it is refused or sealed too, or it is found.
use Rattle.std.proofs.Common.{◌≡◌, ◌∙◌, ap, true, false, rules, Err}
use Rattle.std.proofs.lemmas.Result.{err_from_is_err_and}
use Rattle.sector_dev.specs.Disk.{reads_of}
use Rattle.gate_journal.specs.Scanning.{reading_of}
use Rattle.ckpt_pair.specs.Reading.{checkpoint_view}
use Rattle.store_layout.specs.Geometry.{geometry_view}
use Rattle.store_open.specs.declared.error.OpenError.{OpenError}
use Rattle.store_open.proofs.Steps.{refused_by_half, none_behind, refused_by_scan, sealed_twice, found_behind}
use Rattle.store_open.proofs.opening.read_tail.Goals as goal

pub returns-in_err-half-clause-opening : goal.returns-in_err-half-clause-opening
returns-in_err-half-clause-opening g c honest =
    let made = err_from_is_err_and c.from_residual.result c.from_residual.ensures.1 in
    refused_by_half (geometry_view c.args.geometry) c.args.choice.half (checkpoint_view c.args.checkpoint.now) (reading_of c.args.journal.now) (reads_of (g.D.Device.disk c.args.device.now)) c.args.choice.heads (c.requires.heads honest)
    c.from_residual.result c.in_err-half.field-0.0 (made.1 ∙ ap (λ (x : OpenError). Err x) made.2) c.in_err-half.ensures

pub returns-then-not-journal-clause-opening : goal.returns-then-not-journal-clause-opening
returns-then-not-journal-clause-opening g c honest =
    let unsealed : c.args.journal.now.sealed ≡ false = search (rules, c.if-not-journal.true) in
    none_behind (geometry_view c.args.geometry) c.args.choice.half (checkpoint_view c.args.checkpoint.now) (reading_of c.args.journal.now) (reads_of (g.D.Device.disk c.args.device.now)) c.args.choice.heads (c.requires.heads honest) unsealed

pub returns-in_err-tail-clause-opening : goal.returns-in_err-tail-clause-opening
returns-in_err-tail-clause-opening g c honest =
    let sealed : c.args.journal.now.sealed ≡ true = search (rules, c.if-not-journal.false) in
    let made = err_from_is_err_and c.from_residual-in_err-tail.result c.from_residual-in_err-tail.ensures.1 in
    refused_by_scan (geometry_view c.args.geometry) c.args.choice.half (checkpoint_view c.args.checkpoint.now) (reading_of c.args.journal.now) (reads_of (g.D.Device.disk c.args.device.now)) c.args.choice.heads (c.requires.heads honest)
    c.in_ok-half.half sealed c.in_ok-half.ensures c.from_residual-in_err-tail.result c.in_err-tail.field-0.0 (made.1 ∙ ap (λ (x : OpenError). Err x) made.2) (c.in_err-tail.ensures.scan honest)

pub returns-then-tail-clause-opening : goal.returns-then-tail-clause-opening
returns-then-tail-clause-opening g c honest =
    let sealed : c.args.journal.now.sealed ≡ true = search (rules, c.if-not-journal.false) in
    sealed_twice (geometry_view c.args.geometry) c.args.choice.half (checkpoint_view c.args.checkpoint.now) (reading_of c.args.journal.now) (reads_of (g.D.Device.disk c.args.device.now)) c.args.choice.heads (c.requires.heads honest)
    c.in_ok-half.half sealed c.in_ok-half.ensures c.in_ok-tail.tail (c.in_ok-tail.ensures.scan honest) c.if-tail.true

pub returns-clause-opening : goal.returns-clause-opening
returns-clause-opening g c honest =
    let sealed : c.args.journal.now.sealed ≡ true = search (rules, c.if-not-journal.false) in
    found_behind (geometry_view c.args.geometry) c.args.choice.half (checkpoint_view c.args.checkpoint.now) (reading_of c.args.journal.now) (reads_of (g.D.Device.disk c.args.device.now)) c.args.choice.heads (c.requires.heads honest)
    c.in_ok-half.half sealed c.in_ok-half.ensures c.in_ok-tail.tail (c.in_ok-tail.ensures.scan honest) c.if-tail.false
