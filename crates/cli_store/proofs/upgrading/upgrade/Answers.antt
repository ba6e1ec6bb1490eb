use Rattle.std.proofs.Common.{IsTrue, sym, subst}
use Rattle.sector_dev.specs.Disk.{Disk}
use Rattle.cli_store.specs.Stops.{KeepsItsStore}
use Rattle.cli_store.proofs.Stops.{then_moments, printed_moments}
use Rattle.cli_store.proofs.Upgraded.{upgraded, printed, not_printed}
use Rattle.cli_store.proofs.upgrading.upgrade.Goals as goal

pub returns-in-Ok-made-clause-ok : goal.returns-in-Ok-made-clause-ok
returns-in-Ok-made-clause-ok g c =
    printed g.D.Device.disk _ c.into_device-device.result
    (λ honest. upgraded _ _ c.in-Ok.store _ (c.in-Ok.ensures.opened honest) (subst IsTrue (sym c.in-Ok.ensures.any_moment.keeps.is_honest) honest)
    c.in-Ok-made.ensures.latest (sym c.into_device-device.ensures))
    c.print_version.result c.print_version.ensures.ok

pub returns-in-Ok-made-clause-err : goal.returns-in-Ok-made-clause-err
returns-in-Ok-made-clause-err g c =
    not_printed g.D.Device.disk _ c.into_device-device.result
    (λ honest. upgraded _ _ c.in-Ok.store _ (c.in-Ok.ensures.opened honest) (subst IsTrue (sym c.in-Ok.ensures.any_moment.keeps.is_honest) honest)
    c.in-Ok-made.ensures.latest (sym c.into_device-device.ensures))
    _ _ c.print_version.result c.print_version.ensures.err c.print_version.ensures.part

pub returns-in-Ok-made-clause-any_moment : goal.returns-in-Ok-made-clause-any_moment
returns-in-Ok-made-clause-any_moment g c =
    printed_moments g.D.Device.disk (g.D.Device.disk c.args.device) c.into_device-device.result
    (subst (λ (disk : Disk). KeepsItsStore (g.D.Device.disk c.args.device) disk) (sym c.into_device-device.ensures)
    (then_moments _ _ c.in-Ok.store c.in-Ok.ensures.any_moment c.in-Ok.ensures.opened c.in-Ok-made.ensures.any_moment c.in-Ok-made.ensures.behind))
    c.print_version.result c.print_version.ensures.ok c.print_version.ensures.err

pub returns-in-Err-made-clause-any_moment : goal.returns-in-Err-made-clause-any_moment
returns-in-Err-made-clause-any_moment g c =
    subst (λ (disk : Disk). KeepsItsStore (g.D.Device.disk c.args.device) disk) (sym c.into_device-device.ensures)
    (then_moments _ _ c.in-Ok.store c.in-Ok.ensures.any_moment c.in-Ok.ensures.opened c.in-Err-made.ensures.any_moment c.in-Err-made.ensures.behind)
