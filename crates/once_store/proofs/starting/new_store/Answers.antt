use Rattle.sector_dev.specs.Disk.{reads_of}
use Rattle.sector_dev.specs.MemDevice.{memory_disk}
use Rattle.once_store.proofs.FirstStore.{is_honest, first_store}
use Rattle.once_store.proofs.starting.new_store.Goals as goal

pub returns-in-Ok-open : goal.returns-in-Ok-open
returns-in-Ok-open c =
    let device = c.format.new.device in
    let holds = c.in-Ok.ensures.answer.2 (is_honest c.in_ok-device.device) in
    first_store (reads_of (memory_disk device)) c.in-Ok-open.store device.are_bytes holds.reads.new (c.in-Ok-open.ensures.opened (is_honest device)) c.in-Ok-open.ensures.whole
