-- One goal, which the search finds itself.
use Rattle.std.proofs.Common.{rules}
use Rattle.byte_lists.proofs.sectors.sector_count.Goals as goal

pub returns-else-bytes-eq0 : goal.returns-else-bytes-eq0
returns-else-bytes-eq0 c = search rules
