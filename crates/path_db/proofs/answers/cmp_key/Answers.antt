use Rattle.std.proofs.Common.{rules, arith}
use Rattle.std.proofs.lemmas.Grind.{common_steps}
use Rattle.row_map.specs.Database.{key_of}
use Rattle.path_db.proofs.answers.cmp_key.Goals as goal

pub returns-in-Equal : goal.returns-in-Equal
unfolding key_of
returns-in-Equal c = first_of (search rules, grind (arith, common_steps))

pub returns-in_default : goal.returns-in_default
unfolding key_of
returns-in_default c = first_of (search rules, grind (arith, common_steps))
