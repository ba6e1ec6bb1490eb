use Rattle.std.proofs.Common.{rules, arith, ◌++◌}
use Rattle.std.proofs.lemmas.List.{length-append}
use Rattle.path_records.proofs.RowRuns.{halves, read_halves}
use Rattle.path_records.proofs.in_threads.read_by_four.Goals as goal

pub returns : goal.returns
returns g c =
    let first = c.split_at.result.0.now in
    let second = c.split_at-2.result.0.now in
    let third = c.split_at-3.result.0.now in
    let last = c.split_at-3.result.1.now in
    let same = halves c.args.bytes.now first second third last c.split_at.result.1.now c.split_at-2.result.1.now c.split_at.ensures.by_index.0 c.split_at-2.ensures.by_index.0 c.split_at-3.ensures.by_index.0 in
    let read = read_halves c.in_ok-front.front.items c.in_ok-back.back.items c.in_ok-joined.field-0.items c.args.bytes.now (first ++ second) (third ++ last) c.in_ok-front.whole c.in_ok-back.taken
    same (omega (arith, c.if-whole-first.false, length-append first second)) c.in_ok-joined.ensures.same c.in_ok-joined.ensures.database in
    search (rules, read)
