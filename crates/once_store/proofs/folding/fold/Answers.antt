use Rattle.std.proofs.Common.{◌+◌, length, ap, ◌∙◌, arith}
use Rattle.byte_lists.specs.Sectors.{sectors_of}
use Rattle.store_layout.specs.Checkpoint.{checkpoint_bytes}
use Rattle.ckpt_pair.specs.Rows.{rows_format}
use Rattle.group_core.specs.StateView.{StateView}
use Rattle.group_core.specs.Beginning.{checkpoint_of}
use Rattle.once_store.proofs.folding.fold.Goals as goal

-- a checkpoint's bytes are padded to whole sectors
pub lay-laid-requires-clause-sectors : goal.lay-laid-requires-clause-sectors
lay-laid-requires-clause-sectors c =
    let step = c.in-Ok.ensures.step in
    let made = step.5 in
    let bytes = checkpoint_bytes rows_format (checkpoint_of (c.args.state.now.epoch + 1) made.sealed) in
    record {
      sectors = sectors_of (length bytes);
      whole = ap length made.spelled ∙ c.padded_sectors.ensures.padded bytes;
      written = omega (arith, ap (λ (v : StateView). v.written) step.4);
    }
