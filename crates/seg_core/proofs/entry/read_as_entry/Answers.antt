use Rattle.std.proofs.Common.{rules}
use Rattle.seg_core.specs.Entry.{as_entry_decoding}
use Rattle.seg_core.proofs.entry.read_as_entry.Goals as goal

pub returns : goal.returns
unfolding as_entry_decoding
returns c = search rules
