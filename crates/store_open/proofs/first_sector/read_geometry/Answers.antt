-- The sizes in sector 0 are those of the image.
use Rattle.std.proofs.Common.{◌≡◌, ℕ, length, sym, ◌∙◌, ap, arith}
use Rattle.byte_lists.specs.Content.{part}
use Rattle.sector_dev.specs.Disk.{reads_of}
use Rattle.store_open.proofs.first_sector.read_geometry.Goals as goal

pub returns-clause-read : goal.returns-clause-read
returns-clause-read g c honest =
    let whole = g.met.D.Device.whole c.args.device.now honest in
    let reads = reads_of (g.D.Device.disk c.args.device.now) in
    let long : length c.read.new.into ≡ 512 = omega (arith, c.read.auto.into) in
    c.geometry_of.ensures.read reads (sym (c.in_ok-read.ensures.read.bytes honest ∙ ap (λ (n : ℕ). part 0 n reads) long))
    (omega (arith, whole.size, c.sectors-sectors.ensures.sectors))
