use Rattle.std.proofs.Common.{rules}
use Rattle.path_records.proofs.RowRuns.{read_behind}
use Rattle.path_records.proofs.in_threads.read_by_two.Goals as goal

pub returns : goal.returns
returns g c =
    let behind = read_behind c.in_ok-front.field-0.items c.in_ok-back.back.items c.in_ok-joined.field-0.items c.args.low.now c.args.high.now c.in_ok-back.taken
    c.in_ok-joined.ensures.same c.in_ok-joined.ensures.database in
    search (rules, behind)
