use Rattle.ckpt_stream.proofs.Merges.{keys_make}
use Rattle.ckpt_stream.proofs.laws.keys_make_folds.Goals as goal

pub returns : goal.returns
returns c = λ rows commands keys is whole rise covers all.
    keys_make c.keys_are_separate.ensures c.database_is_canonical.ensures c.commands_keep_database.ensures.kept rows commands keys is whole rise covers all
