use Rattle.path_db.proofs.Agreeing.{repeat}
use Rattle.path_db.proofs.laws.agreement.registrations_repeat.Goals as goal

pub returns : goal.returns
returns c =
    repeat c.keys_are_separate.ensures c.commands_keep_database.ensures.kept c.register_leaves_newest.ensures c.database_is_canonical.ensures
