-- Sectors that have other sums than were kept of them.
use Rattle.std.proofs.Common.{◌≡◌, ℕ, ◌+◌, ◌*◌, ◌/◌, ◌∙◌, length, ap, arith}
use Rattle.byte_lists.specs.Content.{part}
use Rattle.byte_lists.proofs.Contents.{length-part}
use Rattle.sector_dev.specs.Disk.{History, reads_of}
use Rattle.sector_dev.proofs.Stretches.{honest_after}
use Rattle.ckpt_stream.proofs.Rewrites.{if_err}
use Rattle.ckpt_stream.proofs.making.make_piece.Goals as goal

pub returns-in_err-rewrite_sectors-clause-damaged : goal.returns-in_err-rewrite_sectors-clause-damaged
returns-in_err-rewrite_sectors-clause-damaged g c =
    let reads = reads_of (g.D.Device.disk c.args.device.now) in
    let first : ℕ = (c.in-Some.at + 32) / 512 in
    let count = c.count_wanted-count.result in
    if_err c.from_residual-in_err-rewrite_sectors.result _ _ (λ honest.
    let whole = g.met.D.Device.whole c.args.device.now honest in
    let long : length (part (512 * c.args.area + 32) c.args.size (reads_of (g.D.Device.disk c.args.device.now))) ≡ c.args.size =
    length-part (512 * c.args.area + 32) c.args.size reads (omega (arith, whole.size, c.requires.room)) in
    c.in_err-rewrite_sectors.ensures.damaged c.args.area reads
    (c.in_ok-read_sectors.ensures.read (honest_after _ _ c.pieces.invariant.keeps honest)
    ∙ ap (λ (h : History). part (512 * (c.args.area + first)) (512 * count) h.now.reads) (c.pieces.invariant.history honest))
    long)
