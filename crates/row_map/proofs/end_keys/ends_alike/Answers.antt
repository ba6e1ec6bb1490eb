use Rattle.row_map.specs.declared.end.By.TheVariants.{OneEnd}
use Rattle.row_map.specs.Row.{row_view}
use Rattle.row_map.specs.EndKeys.{index_number}
use Rattle.row_map.proofs.IndexKeys.{unlike}
use Rattle.row_map.proofs.end_keys.ends_alike.Goals as goal

pub returns-clause-no : goal.returns-clause-no
returns-clause-no c = λ other.
    unlike (index_number (OneEnd c.args.end)) (row_view c.args.new.now) (row_view c.args.old.now) c.isd_as_at.result c.isd_as_at-2.result c.isd_as_at.ensures c.isd_as_at-2.ensures other
