-- One goal, which the search finds itself.
use Rattle.std.proofs.Common.{rules}
use Rattle.store_layout.proofs.versions.most_commands.Goals as goal

pub returns-then-version-le1 : goal.returns-then-version-le1
returns-then-version-le1 c = search rules
