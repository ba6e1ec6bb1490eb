use Rattle.ckpt_stream.proofs.Merges.{merges}
use Rattle.ckpt_stream.proofs.laws.merges_are_folds.Goals as goal

pub returns : goal.returns
returns c = λ rows commands keys is whole rise covers.
    merges c.keys_are_separate.ensures c.database_is_canonical.ensures c.commands_keep_database.ensures.kept rows commands keys is whole rise covers
