use Rattle.std.proofs.Common.{rules}
use Rattle.seg_core.specs.Entry.{hop_field_decoding}
use Rattle.seg_core.proofs.hop.read_hop_field.Goals as goal

pub returns : goal.returns
unfolding hop_field_decoding
returns c = search rules
