-- Goals that the search finds itself.
use Rattle.std.proofs.Common.{rules}
use Rattle.ckpt_pair.proofs.reading.feed_rows_by.Goals as goal

pub returns-in-Ok-clause-fed : goal.returns-in-Ok-clause-fed
returns-in-Ok-clause-fed c = search rules

pub returns-in-Err : goal.returns-in-Err
returns-in-Err c = search rules
