use Rattle.std.proofs.Common.{subst, arith}
use Rattle.row_map.specs.Database.{RowView}
use Rattle.seg_core.specs.Encoding.{IsSegment}
use Rattle.ckpt_stream.proofs.Each.{all_more}
use Rattle.ckpt_stream.proofs.settling.command_is_whole.Goals as goal

pub loop-row-preserved : goal.loop-row-preserved
loop-row-preserved c =
    all_more (λ (row : RowView). IsSegment row.1) c.as_slice-row-items.result.now c.loop-row.row-index c.row-item.result (omega arith) c.loop-row.invariant
    (subst (λ (row : RowView). IsSegment row.1) c.row-item.is c.encoded_len-bytes.ensures.whole)
