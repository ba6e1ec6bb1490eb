-- The checkpoint of a plan.
use Rattle.std.proofs.Common.{◌<◌, ◌^◌, List, arith}
use Rattle.row_map.specs.Database.{RowView, IsDatabase, rows_len}
use Rattle.store_layout.specs.Checkpoint.{CanBeCheckpoint}
use Rattle.ckpt_pair.specs.Checkpoint.{written_checkpoint}
use Rattle.ckpt_pair.specs.Rows.{rows_format}
use Rattle.ckpt_stream.proofs.Rewrites.{rewritten, on_ok}
use Rattle.ckpt_stream.proofs.beginning.rewrite_of.Goals as goal

pub returns-clause-rewritten : goal.returns-clause-rewritten
returns-clause-rewritten c =
    rewritten c.new.result c.checkpoint_front-head.result c.args.epoch c.args.place c.args.plan (omega arith) c.requires.size
    (λ all size count. c.checkpoint_front-head.ensures.spelled all (omega (arith, size, c.requires.size)) (omega (arith, count, c.requires.count))) c.new.ensures

pub returns-clause-can : goal.returns-clause-can
returns-clause-can c =
    on_ok ((rows : List RowView) → IsDatabase rows → rows_len rows < 2 ^ 32 → CanBeCheckpoint rows_format (written_checkpoint c.args.epoch c.args.place rows)) c.new.result c.checkpoint_front-head.ensures.can
