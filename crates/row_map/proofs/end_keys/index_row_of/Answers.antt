use Rattle.std.proofs.Common.{refl}
use Rattle.row_map.specs.EndKeys.{index_number}
use Rattle.row_map.proofs.IndexKeys.{index_key_is}
use Rattle.row_map.proofs.end_keys.index_row_of.Goals as goal

pub returns : goal.returns
returns c =
    rw (c.new.ensures, c.in_ok-try_clone.ensures.same) ((index_key_is (index_number c.args.by) c.number_of-number.result c.args.row.now c.number_of-number.ensures), refl)
