use Rattle.row_map.proofs.Exports.{database_is_canonical}
use Rattle.path_db.proofs.laws.command.database_is_canonical.Goals as goal

pub returns : goal.returns
returns c = database_is_canonical
