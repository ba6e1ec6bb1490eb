use Rattle.std.proofs.Common.{◌≡◌, get_or, sym, subst, arith}
use Rattle.row_map.specs.IndexKey.{IndexKey}
use Rattle.row_map.proofs.IndexKeys.{grown_by_taken, kept_by_add, within_by_add, done_by_add, known_by_add}
use Rattle.row_map.proofs.end_keys.add_rows.Goals as goal

pub returns-in_err-try_clone-clause-grown : goal.returns-in_err-try_clone-clause-grown
returns-in_err-try_clone-clause-grown c =
    let so = c.loop-index_row.invariant in
    grown_by_taken c.args.touched.now c.args.index.now c.loop-index_row.index c.loop-index_row.index_row-index so.kept so.within so.rows

pub returns-in_err-add-clause-grown : goal.returns-in_err-add-clause-grown
returns-in_err-add-clause-grown c =
    let so = c.loop-index_row.invariant in
    rw c.in_err-add.ensures.err (grown_by_taken c.args.touched.now c.args.index.now c.loop-index_row.index c.loop-index_row.index_row-index so.kept so.within so.rows)

pub loop-index_row-preserved : goal.loop-index_row-preserved
loop-index_row-preserved c =
    let start = c.args.index.now in
    let now = c.loop-index_row.index in
    let after = c.add.new.self in
    let touched = c.args.touched.now in
    let i = c.loop-index_row.index_row-index in
    let p = c.in_ok-try_clone.field-0 in
    let is : p ≡ get_or touched i p = subst (λ (q : IndexKey). q ≡ get_or touched i q) (sym c.in_ok-try_clone.ensures) c.index_row-item.is in
    let so = c.loop-index_row.invariant in
    record {
      kept = kept_by_add start now after touched i p (omega arith) is c.in_ok-add.ensures.ok so.kept;
      within = within_by_add start now after touched i p (omega arith) is c.in_ok-add.ensures.ok so.within;
      done = done_by_add start now after touched i p (omega arith) is c.in_ok-add.ensures.ok so.done;
      rows = known_by_add start now after touched i p (omega arith) is c.in_ok-add.ensures.ok c.in_ok-add.ensures.rows so.rows;
    }

pub returns-clause-grown : goal.returns-clause-grown
returns-clause-grown c =
    let so = c.loop-index_row.invariant in
    grown_by_taken c.args.touched.now c.args.index.now c.loop-index_row.index c.loop-index_row.index_row-index so.kept so.within so.rows
