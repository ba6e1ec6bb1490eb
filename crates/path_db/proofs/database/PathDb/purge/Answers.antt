use Rattle.std.proofs.Common.{◌≡◌, ◌-◌, ℕ, List, not, length, sym, ap, ◌∙◌, arith}
use Rattle.std.specs.List.{count_by}
use Rattle.row_map.specs.Database.{RowView, rows_len}
use Rattle.row_map.specs.Drops.{is_valid_beyond, database_after_purge}
use Rattle.path_db.specs.Outcome.{outcome_of_drops}
use Rattle.path_db.proofs.Drops.{dropped_count, fewer_left, fewer_bytes}
use Rattle.path_db.proofs.database.PathDb.purge.Goals as goal

-- where all rows are known to outlast the moment, none is dropped
pub returns-then-outlasts-clause-outcome : goal.returns-then-outlasts-clause-outcome
returns-then-outlasts-clause-outcome c =
    let rows = c.self.inside.rows in
    let same : database_after_purge rows c.args.moment ≡ rows = c.outlasts.ensures c.if-outlasts.true in
    let none : 0 ≡ count_by (λ row. not (is_valid_beyond c.args.moment row)) rows = omega (arith, dropped_count (is_valid_beyond c.args.moment) rows, ap length same) in
    c.dropped.ensures ∙ ap outcome_of_drops none ∙ ap (λ l. outcome_of_drops (count_by (λ row. not (is_valid_beyond c.args.moment row)) l)) c.self.view_is

pub loop-walk-smaller : goal.loop-walk-smaller
loop-walk-smaller c = omega (arith, c.purge_next.ensures.onwards c.loop-walk-test.true, c.purge_next.ensures.within)

pub loop-walk-preserved : goal.loop-walk-preserved
loop-walk-preserved c =
    let at = c.loop-walk.invariant.moment in
    record {
      purged = sym (ap (database_after_purge c.purge_next.new.self) at) ∙ c.purge_next.ensures.others ∙ ap (database_after_purge c.loop-walk.self) at ∙ c.loop-walk.invariant.purged;
      passed = c.purge_next.ensures.passed;
      within = c.purge_next.ensures.within;
      moment = c.purge_next.ensures.moment ∙ at;
    }

-- the rows once no expired one is left
purged_all : (moment at : ℕ) (start before now : List RowView) → at ≡ moment → database_after_purge now at ≡ database_after_purge before at → database_after_purge now at ≡ now
    → database_after_purge before moment ≡ database_after_purge start moment → now ≡ database_after_purge start moment
purged_all moment at start before now e others none purged = sym none ∙ others ∙ ap (database_after_purge before) e ∙ purged

pub returns-clause-database : goal.returns-clause-database
returns-clause-database c =
    purged_all c.args.moment c.loop-walk.walk.moment c.args.self.now c.loop-walk.self c.purge_next.new.self c.loop-walk.invariant.moment c.purge_next.ensures.others (c.purge_next.ensures.none c.loop-walk-test.false) c.loop-walk.invariant.purged

pub overflow_sub-before : goal.overflow_sub-before
overflow_sub-before c =
    let rows = c.args.self.now in
    let now = purged_all c.args.moment c.loop-walk.walk.moment rows c.loop-walk.self c.purge_next.new.self c.loop-walk.invariant.moment c.purge_next.ensures.others (c.purge_next.ensures.none c.loop-walk-test.false) c.loop-walk.invariant.purged in
    omega (arith, c.len-before.ensures.same, ap length c.self.view_is, ap length now, fewer_left (is_valid_beyond c.args.moment) rows, c.len.ensures.count)

pub returns-clause-fewer : goal.returns-clause-fewer
returns-clause-fewer c = omega (arith, ap rows_len (returns-clause-database c), fewer_bytes (is_valid_beyond c.args.moment) c.args.self.now)

pub returns-clause-outcome : goal.returns-clause-outcome
returns-clause-outcome c =
    let rows = c.args.self.now in
    let before : c.len-before.result ≡ length rows = c.len-before.ensures.same ∙ ap length c.self.view_is in
    let count : c.len-before.result - c.len.result ≡ count_by (λ row. not (is_valid_beyond c.args.moment row)) rows = omega (arith, before, ap length (returns-clause-database c), dropped_count (is_valid_beyond c.args.moment) rows, c.len.ensures.count) in
    c.dropped-2.ensures ∙ ap outcome_of_drops count
