use Rattle.path_db.proofs.Agreeing.{commute}
use Rattle.path_db.proofs.laws.agreement.registrations_commute.Goals as goal

pub returns : goal.returns
returns c =
    commute c.keys_are_separate.ensures c.commands_keep_database.ensures.kept c.register_leaves_newest.ensures c.database_is_canonical.ensures
