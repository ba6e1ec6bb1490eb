-- Each way out: after a seal nothing is closed, or else the gates are; and then a sync.
use Rattle.std.proofs.Common.{◌∙◌, sym, ap, Result}
use Rattle.std.proofs.lemmas.Result.{err_from_is_err_and}
use Rattle.sector_dev.specs.declared.device.DevError.{DevError}
use Rattle.store_open.specs.Closing.{synced_by}
use Rattle.store_layout.specs.Geometry.{geometry_view}
use Rattle.store_open.proofs.Rests.{left_alone, closed_and_synced, history_by_sync, nothing_closed, nothing_closed_then}
use Rattle.store_open.proofs.closing.close_unused.Goals as goal

pub returns-then-sealed-clause-any_moment : goal.returns-then-sealed-clause-any_moment
returns-then-sealed-clause-any_moment g c =
    left_alone (geometry_view c.args.geometry) c.args.chosen c.args.sealed _ c.sync.result _ c.if-sealed.true c.requires.clean c.sync.ensures.sync

pub returns-clause-any_moment : goal.returns-clause-any_moment
returns-clause-any_moment g c =
    closed_and_synced (geometry_view c.args.geometry) c.args.chosen c.args.sealed _ c.sync-2.result c.other.result _ _ c.other.ensures c.if-sealed.false
    c.close_half.ensures.any_moment c.sync-2.ensures.sync

pub returns-then-sealed-clause-unwritten : goal.returns-then-sealed-clause-unwritten
returns-then-sealed-clause-unwritten g c = λ honest none. history_by_sync c.sync.result _ _ c.sync.ensures.sync honest

pub returns-in_err-close_half-clause-unwritten : goal.returns-in_err-close_half-clause-unwritten
returns-in_err-close_half-clause-unwritten g c = λ honest none.
    let made = err_from_is_err_and c.from_residual.result c.from_residual.ensures.1 in
    nothing_closed (geometry_view c.args.geometry) c.args.chosen c.args.sealed (g.D.Device.disk c.args.device.now) (g.D.Device.disk c.close_half.new.device) c.other.result c.other.ensures c.if-sealed.false c.close_half.ensures.unwritten honest none
    ∙ sym (ap (λ (r : Result (Unit {0}) DevError). synced_by r (g.D.Device.disk c.args.device.now).history) made.1)

pub returns-clause-unwritten : goal.returns-clause-unwritten
returns-clause-unwritten g c =
    nothing_closed_then (geometry_view c.args.geometry) c.args.chosen c.args.sealed (g.D.Device.disk c.args.device.now) (g.D.Device.disk c.close_half.new.device) c.other.result c.other.ensures c.if-sealed.false c.close_half.ensures.unwritten
    c.sync-2.result _ c.close_half.ensures.any_moment.keeps c.sync-2.ensures.sync
