-- By the sizes that were found.
use Rattle.std.proofs.Common.{sym, ◌∙◌, ap, subst, Option}
use Rattle.std.specs.Option.{option_map, IfSome}
use Rattle.sector_dev.specs.Disk.{reads_of}
use Rattle.store_layout.specs.OpeningReading.{by_geometry}
use Rattle.store_layout.specs.Limits.{latest}
use Rattle.store_layout.specs.declared.geometry.Geometry.{Geometry}
use Rattle.store_layout.specs.Geometry.{geometry_view}
use Rattle.store_open.specs.NewStore.{DeviceHasRoomFor}
use Rattle.store_open.specs.PathStores.{store_format}
use Rattle.store_open.specs.Open.{opening_view, OpensSo, HasFront, WantsMemoryToOpen}
use Rattle.store_open.proofs.Steps.{not_a_store, room_found, memory_then}
use Rattle.store_open.proofs.opening.read_sized.Goals as goal

pub read_store-requires-clause-room : goal.read_store-requires-clause-room
read_store-requires-clause-room g c =
    subst (λ (f : Option Geometry). IfSome f (λ (x : Geometry). DeviceHasRoomFor (geometry_view x) (g.D.Device.disk c.args.device.now))) c.in-Some.is c.requires.room

pub returns-in-Some-clause-opening : goal.returns-in-Some-clause-opening
returns-in-Some-clause-opening g c honest =
    subst (λ (f : Option Geometry). OpensSo opening_view c.read_store.result (by_geometry store_format latest (reads_of (g.D.Device.disk c.args.device.now)) (option_map geometry_view f)))
    (sym c.in-Some.is) (c.read_store.ensures.opening honest)

pub returns-in-Some-clause-memory : goal.returns-in-Some-clause-memory
returns-in-Some-clause-memory g c honest =
    memory_then (HasFront (geometry_view c.in-Some.geometry) (reads_of (g.D.Device.disk c.args.device.now))) (WantsMemoryToOpen (reads_of (g.D.Device.disk c.args.device.now))) c.read_store.result
    (λ front. record {
      geometry = (geometry_view c.in-Some.geometry);
      store = sym (c.requires.sizes honest) ∙ ap (λ (f : Option Geometry). option_map geometry_view f) c.in-Some.is;
      half = front.half;
      chosen = front.chosen;
      front = front.front;
    })
    (c.read_store.ensures.memory honest)

pub returns-in-Some-clause-room : goal.returns-in-Some-clause-room
returns-in-Some-clause-room g c =
    room_found c.read_store.result c.in-Some.geometry (g.D.Device.disk c.args.device.now) c.read_store.ensures.same
    (subst (λ (f : Option Geometry). IfSome f (λ (x : Geometry). DeviceHasRoomFor (geometry_view x) (g.D.Device.disk c.args.device.now))) c.in-Some.is c.requires.room)

pub returns-in-None-clause-opening : goal.returns-in-None-clause-opening
returns-in-None-clause-opening g c honest = not_a_store (reads_of (g.D.Device.disk c.args.device.now)) c.args.found c.in-None.is
