use Rattle.std.proofs.Common.{◌∙◌}
use Rattle.isd_as.specs.IsdAs.{isd_as_number}
use Rattle.path_db.proofs.Ends.{begins_is}
use Rattle.path_db.proofs.answers.covers_first.Goals as goal

pub returns : goal.returns
returns c = c.covers_entry.ensures ∙ begins_is (isd_as_number c.args.pattern) c.args.entries.now c.first.result c.first.ensures.value
