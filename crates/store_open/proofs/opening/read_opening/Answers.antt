-- The sizes, and then by them.
use Rattle.std.proofs.Common.{sym, ◌∙◌, ap, subst, Option}
use Rattle.sector_dev.specs.Disk.{History, reads_of}
use Rattle.sector_dev.proofs.Stretches.{honest_after, honest_before}
use Rattle.store_layout.specs.FirstSector.{geometry_in}
use Rattle.store_layout.specs.Layout as laws
use Rattle.store_layout.specs.OpeningReading.{by_geometry}
use Rattle.store_layout.specs.Limits.{latest}
use Rattle.store_open.specs.PathStores.{store_format}
use Rattle.store_open.specs.Open.{opening_view, OpensSo, WantsMemoryToOpen}
use Rattle.store_open.specs.Refusals.{OnOkOrNoMemory}
use Rattle.store_open.proofs.Steps.{looks_then, room_before}
use Rattle.store_open.proofs.opening.read_opening.Goals as goal

pub read_sized-requires-clause-room : goal.read_sized-requires-clause-room
read_sized-requires-clause-room g c = c.in_ok-found.ensures.room

pub read_sized-requires-clause-sizes : goal.read_sized-requires-clause-sizes
read_sized-requires-clause-sizes g c = λ honest_mid.
    let honest = honest_before (g.D.Device.disk c.args.device.now) (g.D.Device.disk c.read_geometry.new.device) c.in_ok-found.ensures.keeps honest_mid in
    c.in_ok-found.ensures.read honest ∙ ap (λ (h : History). geometry_in h.now.reads) (sym (c.in_ok-found.ensures.history honest))

pub returns-clause-looks : goal.returns-clause-looks
returns-clause-looks g c =
    looks_then c.read_sized.result (g.D.Device.disk c.args.device.now) (g.D.Device.disk c.read_geometry.new.device) _ c.in_ok-found.ensures.keeps c.in_ok-found.ensures.faults c.in_ok-found.ensures.history c.read_sized.ensures.looks

pub returns-clause-opening : goal.returns-clause-opening
returns-clause-opening g c honest =
    let same = c.in_ok-found.ensures.history honest in
    subst (λ (h : History). OpensSo opening_view c.read_sized.result (by_geometry store_format latest h.now.reads (geometry_in (reads_of (g.D.Device.disk c.args.device.now))))) same
    (subst (λ (f : Option laws.Geometry). OpensSo opening_view c.read_sized.result (by_geometry store_format latest (reads_of (g.D.Device.disk c.read_geometry.new.device)) f)) (c.in_ok-found.ensures.read honest)
    (c.read_sized.ensures.opening (honest_after (g.D.Device.disk c.args.device.now) (g.D.Device.disk c.read_geometry.new.device) c.in_ok-found.ensures.keeps honest)))

pub returns-clause-memory : goal.returns-clause-memory
returns-clause-memory g c honest =
    subst (λ (h : History). OnOkOrNoMemory c.read_sized.result (WantsMemoryToOpen h.now.reads)) (c.in_ok-found.ensures.history honest)
    (c.read_sized.ensures.memory (honest_after (g.D.Device.disk c.args.device.now) (g.D.Device.disk c.read_geometry.new.device) c.in_ok-found.ensures.keeps honest))

pub returns-clause-room : goal.returns-clause-room
returns-clause-room g c = room_before c.read_sized.result (g.D.Device.disk c.args.device.now) (g.D.Device.disk c.read_geometry.new.device) c.in_ok-found.ensures.keeps.sectors c.read_sized.ensures.room
