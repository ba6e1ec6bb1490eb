use Rattle.path_records.proofs.Records.{outlined}
use Rattle.path_records.proofs.row_records.read_spelled.Goals as goal

pub returns-clause-outline : goal.returns-clause-outline
returns-clause-outline c = outlined c.args.message.now c.in-Ok.segment c.in-Ok.ensures.decoding
