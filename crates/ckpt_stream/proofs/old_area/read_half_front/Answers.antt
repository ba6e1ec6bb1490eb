-- The front, and a journal of which nothing is read yet.
use Rattle.std.proofs.Common.{◌∙◌, sym, arith}
use Rattle.sector_dev.specs.Disk.{reads_of}
use Rattle.store_layout.specs.Layout.{journal_of}
use Rattle.store_layout.specs.Geometry.{geometry_view}
use Rattle.store_open.proofs.Journals.{journal_size}
use Rattle.ckpt_stream.proofs.old_area.read_half_front.Goals as goal

pub returns-clause-reads : goal.returns-clause-reads
returns-clause-reads g c honest on =
    let geometry = geometry_view c.args.geometry in
    let reads = reads_of (g.D.Device.disk c.args.device.now) in
    record {
      front = c.in_ok-front.ensures.front honest;
      version = c.new-scanner.ensures.version;
      read = c.new-scanner.ensures.start (journal_of geometry c.args.half reads)
          (journal_size geometry c.args.half reads c.requires.allowed (let whole = g.met.D.Device.whole c.args.device.now honest in omega (arith, whole.size, c.requires.room))
          ∙ sym c.from-sectors.ensures);
    }
