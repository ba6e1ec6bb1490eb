use Rattle.std.proofs.Common.{sym, subst}
use Rattle.sector_dev.specs.Disk.{reads_of}
use Rattle.sector_dev.specs.FileDevice.{file_disk}
use Rattle.store_open.specs.Open.{IsOpened}
use Rattle.cli_program.proofs.site.Site.open.Goals as goal

-- what is reserved is what was opened
pub returns-in-Ok-clause-opened : goal.returns-in-Ok-clause-opened
returns-in-Ok-clause-opened g c =
    λ honest. subst (λ store. IsOpened (reads_of (file_disk c.args.self.device)) store) (sym c.of-store.ensures) (c.in-Ok.ensures.opened honest)
