use Rattle.ckpt_pair.proofs.Streams.{rows_begun, halves_read}
use Rattle.ckpt_pair.proofs.laws.rows.streams_read_halves.Goals as goal

pub returns-clause-begin : goal.returns-clause-begin
returns-clause-begin c = rows_begun

pub returns-clause-halves : goal.returns-clause-halves
returns-clause-halves c = halves_read
