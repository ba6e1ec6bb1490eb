-- One sector more.
use Rattle.std.proofs.Common.{[], arith}
use Rattle.std.proofs.lemmas.List.{take_rest}
use Rattle.ckpt_stream.proofs.SectorSums.{push_step}
use Rattle.ckpt_stream.proofs.sums.push_sums.Goals as goal

pub sectors-preserved : goal.sectors-preserved
sectors-preserved c =
    let l = c.sectors in
    record {
      end = omega (arith, l.invariant.end, c.sectors-test.true);
      sums = push_step [] l.bytes.now _ l.sector l.left c.min-end.result c.sum_of.result (omega (arith, c.sectors-test.true)) (omega (arith, c.min-end.ensures, c.row_bytes.ensures))
          (take_rest l.bytes.now c.min-end.result) c.sum_of.ensures l.sums.items c.push.new.self.items _ c.in_ok-push.ensures.items l.invariant.sums;
    }
