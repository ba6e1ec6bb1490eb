-- One sector more, and a sector with another sum.
use Rattle.std.proofs.Common.{◌<◌, length, arith}
use Rattle.std.proofs.lemmas.List.{take_rest}
use Rattle.ckpt_stream.proofs.SectorSums.{equal_up, equal_down}
use Rattle.ckpt_stream.proofs.sums.have_sums.Goals as goal

pub returns-then-sums-sector-clause-other : goal.returns-then-sums-sector-clause-other
returns-then-sums-sector-clause-other c is all =
    let l = c.sectors in
    let inside : c.sectors.sector < length c.args.sums.now = omega (arith, l.invariant.end, c.sectors-test.true, c.requires) in
    let end = c.min-end.ensures in
    c.if-sums-sector.true ((equal_down c.args.sums.now l.bytes.now _ l.sector l.left c.min-end.result c.sum_of.result (omega (arith, c.sectors-test.true))
    (omega (arith, end, c.row_bytes.ensures)) (take_rest l.bytes.now c.min-end.result) c.sum_of.ensures inside (l.invariant.down all)).0)

pub sectors-preserved : goal.sectors-preserved
sectors-preserved c =
    let l = c.sectors in
    let inside : c.sectors.sector < length c.args.sums.now = omega (arith, l.invariant.end, c.sectors-test.true, c.requires) in
    let end = c.min-end.ensures in
    record {
      end = omega (arith, l.invariant.end, c.sectors-test.true);
      up = λ rest.
          l.invariant.up
          (equal_up c.args.sums.now l.bytes.now _ l.sector l.left c.min-end.result c.sum_of.result (omega (arith, c.sectors-test.true)) (omega (arith, end, c.row_bytes.ensures))
          (take_rest l.bytes.now c.min-end.result) c.sum_of.ensures inside c.if-sums-sector.false rest);
      down = λ all.
          (equal_down c.args.sums.now l.bytes.now _ l.sector l.left c.min-end.result c.sum_of.result (omega (arith, c.sectors-test.true)) (omega (arith, end, c.row_bytes.ensures))
          (take_rest l.bytes.now c.min-end.result) c.sum_of.ensures inside (l.invariant.down all)).1;
    }
