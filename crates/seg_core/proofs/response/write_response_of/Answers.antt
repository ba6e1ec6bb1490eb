use Rattle.std.proofs.Common.{rules}
use Rattle.seg_core.proofs.response.write_response_of.Goals as goal

pub returns-then-is_empty-clause-nothing : goal.returns-then-is_empty-clause-nothing
returns-then-is_empty-clause-nothing c = search rules
