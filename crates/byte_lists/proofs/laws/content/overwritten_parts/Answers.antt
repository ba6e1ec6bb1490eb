use Rattle.byte_lists.proofs.Contents.{overwritten}
use Rattle.byte_lists.proofs.laws.content.overwritten_parts.Goals as goal

pub returns : goal.returns
returns c = overwritten
