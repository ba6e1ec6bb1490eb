use Rattle.std.proofs.Common.{rules}
use Rattle.seg_core.proofs.outline.is_entry_count.Goals as goal

pub returns : goal.returns
returns c = search rules
