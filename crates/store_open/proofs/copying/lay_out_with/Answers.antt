-- A sync, three writes before the rows, the rows, and the gate, one after the other.
use Rattle.std.proofs.Common.{ap}
use Rattle.byte_lists.specs.Sectors.{padded}
use Rattle.store_layout.specs.Geometry.{geometry_view}
use Rattle.store_open.proofs.AtRest.{fits_area}
use Rattle.store_open.proofs.CopySteps.{after_sync, after_first, after_second, after_title, after_rows, after_gate, all_written}
use Rattle.store_open.proofs.copying.lay_out_with.Goals as goal

pub returns-in_err-sync-clause-any_moment : goal.returns-in_err-sync-clause-any_moment
returns-in_err-sync-clause-any_moment g c =
    after_sync (geometry_view c.args.geometry) c.args.db.now c.args.place _ c.requires.may (g.met.D.Device.whole c.args.device.now)
    c.sync.result _ c.sync.ensures.sync

pub returns-in_err-write_through-clause-any_moment : goal.returns-in_err-write_through-clause-any_moment
returns-in_err-write_through-clause-any_moment g c =
    after_first (geometry_view c.args.geometry) c.args.db.now c.args.place _ c.requires.may (g.met.D.Device.whole c.args.device.now)
    c.sync.result _ c.sync.ensures.sync
    _ _ _ c.gate_at.ensures c.closed_gates.ensures.same c.write_through.ensures.any_moment

pub returns-in_err-write_through-2-clause-any_moment : goal.returns-in_err-write_through-2-clause-any_moment
returns-in_err-write_through-2-clause-any_moment g c =
    after_second (geometry_view c.args.geometry) c.args.db.now c.args.place _ c.requires.may (g.met.D.Device.whole c.args.device.now)
    c.sync.result _ c.sync.ensures.sync
    _ _ _ c.gate_at.ensures c.closed_gates.ensures.same c.write_through.ensures.any_moment
    c.in_ok-write_through.ensures.written _ _ _ c.gate_at-2.ensures c.closed_gates-2.ensures.same c.write_through-2.ensures.any_moment

pub returns-in_err-write_through-3-clause-any_moment : goal.returns-in_err-write_through-3-clause-any_moment
returns-in_err-write_through-3-clause-any_moment g c =
    after_title (geometry_view c.args.geometry) c.args.db.now c.args.place _ c.requires.may (g.met.D.Device.whole c.args.device.now)
    c.sync.result _ c.sync.ensures.sync
    _ _ _ c.gate_at.ensures c.closed_gates.ensures.same c.write_through.ensures.any_moment
    c.in_ok-write_through.ensures.written _ _ _ c.gate_at-2.ensures c.closed_gates-2.ensures.same c.write_through-2.ensures.any_moment
    c.in_ok-write_through-2.ensures.written _ _ c.title_sector.ensures c.write_through-3.ensures.any_moment

pub returns-in_err-lay-clause-any_moment : goal.returns-in_err-lay-clause-any_moment
returns-in_err-lay-clause-any_moment g c =
    after_rows (geometry_view c.args.geometry) c.args.db.now c.args.place _ c.requires.may (g.met.D.Device.whole c.args.device.now)
    c.sync.result _ c.sync.ensures.sync
    _ _ _ c.gate_at.ensures c.closed_gates.ensures.same c.write_through.ensures.any_moment
    c.in_ok-write_through.ensures.written _ _ _ c.gate_at-2.ensures c.closed_gates-2.ensures.same c.write_through-2.ensures.any_moment
    c.in_ok-write_through-2.ensures.written _ _ c.title_sector.ensures c.write_through-3.ensures.any_moment
    c.in_ok-write_through-3.ensures.written _ _ _ c.area_at.ensures
    (fits_area 1 c.args.place c.args.geometry.checkpoint c.args.db.now _ (ap padded c.checkpoint_head-head.ensures.spelled) c.written_rows_are_counted.ensures c.requires.may.fits)
    c.lay.ensures.any_moment

pub returns-clause-any_moment : goal.returns-clause-any_moment
returns-clause-any_moment g c =
    after_gate (geometry_view c.args.geometry) c.args.db.now c.args.place _ c.requires.may (g.met.D.Device.whole c.args.device.now)
    c.sync.result _ c.sync.ensures.sync
    _ _ _ c.gate_at.ensures c.closed_gates.ensures.same c.write_through.ensures.any_moment
    c.in_ok-write_through.ensures.written _ _ _ c.gate_at-2.ensures c.closed_gates-2.ensures.same c.write_through-2.ensures.any_moment
    c.in_ok-write_through-2.ensures.written _ _ c.title_sector.ensures c.write_through-3.ensures.any_moment
    c.in_ok-write_through-3.ensures.written _ _ _ c.area_at.ensures
    (fits_area 1 c.args.place c.args.geometry.checkpoint c.args.db.now _ (ap padded c.checkpoint_head-head.ensures.spelled) c.written_rows_are_counted.ensures c.requires.may.fits)
    c.lay.ensures.any_moment
    c.in_ok-lay.ensures.written (ap padded c.checkpoint_head-head.ensures.spelled) c.checkpoint_head-head.ensures.can _ _ _ c.gate_at-3.ensures c.open_gate.ensures c.write_through-4.ensures.any_moment

pub returns-clause-done : goal.returns-clause-done
returns-clause-done g c =
    all_written (geometry_view c.args.geometry) c.args.db.now c.args.place _ c.requires.may (g.met.D.Device.whole c.args.device.now)
    c.sync.result _ c.sync.ensures.sync
    _ _ _ c.gate_at.ensures c.closed_gates.ensures.same c.write_through.ensures.any_moment
    c.in_ok-write_through.ensures.written _ _ _ c.gate_at-2.ensures c.closed_gates-2.ensures.same c.write_through-2.ensures.any_moment
    c.in_ok-write_through-2.ensures.written _ _ c.title_sector.ensures c.write_through-3.ensures.any_moment
    c.in_ok-write_through-3.ensures.written _ _ _ c.area_at.ensures
    (fits_area 1 c.args.place c.args.geometry.checkpoint c.args.db.now _ (ap padded c.checkpoint_head-head.ensures.spelled) c.written_rows_are_counted.ensures c.requires.may.fits)
    c.lay.ensures.any_moment
    c.in_ok-lay.ensures.written (ap padded c.checkpoint_head-head.ensures.spelled) c.checkpoint_head-head.ensures.can _ _ _ c.gate_at-3.ensures c.open_gate.ensures c.write_through-4.ensures.any_moment
    c.write_through-4.result c.write_through-4.ensures.settled c.write_through-4.ensures.written
