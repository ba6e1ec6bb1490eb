-- Six writes and a sync.
use Rattle.store_layout.specs.Geometry.{geometry_view}
use Rattle.store_open.proofs.Written.{laid_out}
use Rattle.store_open.proofs.Behind.{kept_here, kept_synced, kept_title, kept_area, kept_gate, kept_journal, kept_second_gate, kept_second_journal}
use Rattle.store_open.proofs.new_store.lay_out.Goals as goal

pub returns-clause-done : goal.returns-clause-done
returns-clause-done g c =
    laid_out (geometry_view c.args.geometry) _ c.requires (g.met.D.Device.whole c.args.device.now) _ _ _ _ _ _ _ _ _ _ _
    c.area_at.ensures c.gate_at.ensures c.journal_at.ensures c.gate_at-2.ensures c.journal_at-2.ensures
    c.title_sector.ensures c.first_checkpoint.ensures c.open_gate.ensures c.closed_gate.ensures c.closed_gate-2.ensures c.closed_gate-3.ensures
    _ _ _ _ _ _ c.sync.result _ _ _ _ _ _ _
    c.in_ok-write.ensures.write c.in_ok-write-2.ensures.write c.in_ok-write-3.ensures.write c.in_ok-write-4.ensures.write c.in_ok-write-5.ensures.write c.in_ok-write-6.ensures.write
    c.sync.ensures.sync

pub returns-in_err-write-clause-behind : goal.returns-in_err-write-clause-behind
returns-in_err-write-clause-behind g c =
    kept_title (geometry_view c.args.geometry) _ c.requires _ _ _ c.write.result c.title_sector.ensures (g.met.D.Device.whole c.args.device.now)
    (kept_here (geometry_view c.args.geometry) (g.D.Device.disk c.args.device.now))
    c.write.ensures.write

pub returns-in_err-write-2-clause-behind : goal.returns-in_err-write-2-clause-behind
returns-in_err-write-2-clause-behind g c =
    kept_area (geometry_view c.args.geometry) _ c.requires _ _ _ _ c.write-2.result c.area_at.ensures c.first_checkpoint.ensures (g.met.D.Device.whole c.write.new.self)
    (kept_title (geometry_view c.args.geometry) _ c.requires _ _ _ c.write.result c.title_sector.ensures (g.met.D.Device.whole c.args.device.now)
    (kept_here (geometry_view c.args.geometry) (g.D.Device.disk c.args.device.now))
    c.write.ensures.write)
    c.write-2.ensures.write

pub returns-in_err-write-3-clause-behind : goal.returns-in_err-write-3-clause-behind
returns-in_err-write-3-clause-behind g c =
    kept_gate (geometry_view c.args.geometry) _ c.requires _ _ _ _ c.write-3.result c.gate_at.ensures c.open_gate.ensures (g.met.D.Device.whole c.write-2.new.self)
    (kept_area (geometry_view c.args.geometry) _ c.requires _ _ _ _ c.write-2.result c.area_at.ensures c.first_checkpoint.ensures (g.met.D.Device.whole c.write.new.self)
    (kept_title (geometry_view c.args.geometry) _ c.requires _ _ _ c.write.result c.title_sector.ensures (g.met.D.Device.whole c.args.device.now)
    (kept_here (geometry_view c.args.geometry) (g.D.Device.disk c.args.device.now))
    c.write.ensures.write)
    c.write-2.ensures.write)
    c.write-3.ensures.write

pub returns-in_err-write-4-clause-behind : goal.returns-in_err-write-4-clause-behind
returns-in_err-write-4-clause-behind g c =
    kept_journal (geometry_view c.args.geometry) _ c.requires _ _ _ _ c.write-4.result c.journal_at.ensures c.closed_gate.ensures (g.met.D.Device.whole c.write-3.new.self)
    (kept_gate (geometry_view c.args.geometry) _ c.requires _ _ _ _ c.write-3.result c.gate_at.ensures c.open_gate.ensures (g.met.D.Device.whole c.write-2.new.self)
    (kept_area (geometry_view c.args.geometry) _ c.requires _ _ _ _ c.write-2.result c.area_at.ensures c.first_checkpoint.ensures (g.met.D.Device.whole c.write.new.self)
    (kept_title (geometry_view c.args.geometry) _ c.requires _ _ _ c.write.result c.title_sector.ensures (g.met.D.Device.whole c.args.device.now)
    (kept_here (geometry_view c.args.geometry) (g.D.Device.disk c.args.device.now))
    c.write.ensures.write)
    c.write-2.ensures.write)
    c.write-3.ensures.write)
    c.write-4.ensures.write

pub returns-in_err-write-5-clause-behind : goal.returns-in_err-write-5-clause-behind
returns-in_err-write-5-clause-behind g c =
    kept_second_gate (geometry_view c.args.geometry) _ c.requires _ _ _ _ c.write-5.result c.gate_at-2.ensures c.closed_gate-2.ensures (g.met.D.Device.whole c.write-4.new.self)
    (kept_journal (geometry_view c.args.geometry) _ c.requires _ _ _ _ c.write-4.result c.journal_at.ensures c.closed_gate.ensures (g.met.D.Device.whole c.write-3.new.self)
    (kept_gate (geometry_view c.args.geometry) _ c.requires _ _ _ _ c.write-3.result c.gate_at.ensures c.open_gate.ensures (g.met.D.Device.whole c.write-2.new.self)
    (kept_area (geometry_view c.args.geometry) _ c.requires _ _ _ _ c.write-2.result c.area_at.ensures c.first_checkpoint.ensures (g.met.D.Device.whole c.write.new.self)
    (kept_title (geometry_view c.args.geometry) _ c.requires _ _ _ c.write.result c.title_sector.ensures (g.met.D.Device.whole c.args.device.now)
    (kept_here (geometry_view c.args.geometry) (g.D.Device.disk c.args.device.now))
    c.write.ensures.write)
    c.write-2.ensures.write)
    c.write-3.ensures.write)
    c.write-4.ensures.write)
    c.write-5.ensures.write

pub returns-in_err-write-6-clause-behind : goal.returns-in_err-write-6-clause-behind
returns-in_err-write-6-clause-behind g c =
    kept_second_journal (geometry_view c.args.geometry) _ c.requires _ _ _ _ c.write-6.result c.journal_at-2.ensures c.closed_gate-3.ensures (g.met.D.Device.whole c.write-5.new.self)
    (kept_second_gate (geometry_view c.args.geometry) _ c.requires _ _ _ _ c.write-5.result c.gate_at-2.ensures c.closed_gate-2.ensures (g.met.D.Device.whole c.write-4.new.self)
    (kept_journal (geometry_view c.args.geometry) _ c.requires _ _ _ _ c.write-4.result c.journal_at.ensures c.closed_gate.ensures (g.met.D.Device.whole c.write-3.new.self)
    (kept_gate (geometry_view c.args.geometry) _ c.requires _ _ _ _ c.write-3.result c.gate_at.ensures c.open_gate.ensures (g.met.D.Device.whole c.write-2.new.self)
    (kept_area (geometry_view c.args.geometry) _ c.requires _ _ _ _ c.write-2.result c.area_at.ensures c.first_checkpoint.ensures (g.met.D.Device.whole c.write.new.self)
    (kept_title (geometry_view c.args.geometry) _ c.requires _ _ _ c.write.result c.title_sector.ensures (g.met.D.Device.whole c.args.device.now)
    (kept_here (geometry_view c.args.geometry) (g.D.Device.disk c.args.device.now))
    c.write.ensures.write)
    c.write-2.ensures.write)
    c.write-3.ensures.write)
    c.write-4.ensures.write)
    c.write-5.ensures.write)
    c.write-6.ensures.write

pub returns-clause-behind : goal.returns-clause-behind
returns-clause-behind g c =
    kept_synced (geometry_view c.args.geometry) _ _ _ c.sync.result
    (kept_second_journal (geometry_view c.args.geometry) _ c.requires _ _ _ _ c.write-6.result c.journal_at-2.ensures c.closed_gate-3.ensures (g.met.D.Device.whole c.write-5.new.self)
    (kept_second_gate (geometry_view c.args.geometry) _ c.requires _ _ _ _ c.write-5.result c.gate_at-2.ensures c.closed_gate-2.ensures (g.met.D.Device.whole c.write-4.new.self)
    (kept_journal (geometry_view c.args.geometry) _ c.requires _ _ _ _ c.write-4.result c.journal_at.ensures c.closed_gate.ensures (g.met.D.Device.whole c.write-3.new.self)
    (kept_gate (geometry_view c.args.geometry) _ c.requires _ _ _ _ c.write-3.result c.gate_at.ensures c.open_gate.ensures (g.met.D.Device.whole c.write-2.new.self)
    (kept_area (geometry_view c.args.geometry) _ c.requires _ _ _ _ c.write-2.result c.area_at.ensures c.first_checkpoint.ensures (g.met.D.Device.whole c.write.new.self)
    (kept_title (geometry_view c.args.geometry) _ c.requires _ _ _ c.write.result c.title_sector.ensures (g.met.D.Device.whole c.args.device.now)
    (kept_here (geometry_view c.args.geometry) (g.D.Device.disk c.args.device.now))
    c.write.ensures.write)
    c.write-2.ensures.write)
    c.write-3.ensures.write)
    c.write-4.ensures.write)
    c.write-5.ensures.write)
    c.write-6.ensures.write)
    c.sync.ensures.sync
