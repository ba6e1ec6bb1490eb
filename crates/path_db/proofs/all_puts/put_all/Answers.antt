use Rattle.std.proofs.Common.{List, sym, ap, ◌∙◌, subst}
use Rattle.row_map.specs.Database.{IsRising, rows_len}
use Rattle.row_map.specs.Row.{row_views}
use Rattle.row_map.specs.Saved.{Stood, IsLeft}
use Rattle.path_db.proofs.Restored.{left_of_first}
use Rattle.row_map.proofs.Exports.{rising_puts}
use Rattle.path_db.proofs.all_puts.put_all.Goals as goal

pub returns-in-Err-clause-err : goal.returns-in-Err-clause-err
returns-in-Err-clause-err c =
    let rows = c.args.rows.now in
    let first = c.in-Err.ensures.some in
    let left = left_of_first rows (row_views c.args.new.items) c.put_rows.new.rows c.requires.rising first in
    let now = subst IsRising (sym first.put) (rising_puts rows first.part c.requires.rising) in
    c.restore.ensures rows c.requires.rising now (subst (λ (l : List Stood). IsLeft rows l c.put_rows.new.rows) (sym c.requires.saved) left)

pub returns-in-Err-clause-bytes : goal.returns-in-Err-clause-bytes
returns-in-Err-clause-bytes c = c.requires.counted ∙ sym (ap rows_len (returns-in-Err-clause-err c))
