-- One goal, which the search finds itself.
use Rattle.std.proofs.Common.{rules}
use Rattle.ckpt_pair.proofs.reading.finish_rows.Goals as goal

pub returns-clause-decoding : goal.returns-clause-decoding
returns-clause-decoding c = search rules
