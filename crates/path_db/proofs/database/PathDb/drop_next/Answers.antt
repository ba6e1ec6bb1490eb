use Rattle.std.proofs.Common.{◌≡◌, ◌<◌, length, not, sym, ap, ◌∙◌, subst, true}
use Rattle.row_map.specs.Database.{key, is_under, row_under}
use Rattle.row_map.specs.Drops.{database_after_purge, database_after_removal}
use Rattle.row_map.specs.Purge.{is_below, OutlastsAmong, HasPassed, OutlastsBefore, HasPassedBuckets}
use Rattle.row_map.proofs.Exports.{key_is, all_filtered, dropped_one}
use Rattle.path_db.proofs.Counts.{fewer_after}
use Rattle.path_db.proofs.database.PathDb.drop_next.Goals as goal

-- the rows before a row is dropped, and its key
pub returns-clause-others : goal.returns-clause-others
returns-clause-others c =
    let rows = c.self.inside.rows in
    let found = c.in-Some.ensures.expired in
    let moment = c.args.walk.now.moment in
    let k = key c.in-Some.row.now.kind c.id.result.now in
    let there = ap (λ l. row_under l rows) (key_is c.in-Some.row.now c.id.result.now c.id.ensures) ∙ found.1 in
    rw (← c.self.view_is) (ap (λ l. database_after_purge l moment) c.remove.ensures.database ∙ ap (λ l. database_after_purge (database_after_removal l k) moment) (sym c.self.view_is) ∙ dropped_one k moment found.0 rows c.self.invariant.database.rising there found.2)

pub returns-clause-dropped : goal.returns-clause-dropped
returns-clause-dropped c = λ e.
    let rows = c.self.inside.rows in
    let found = c.in-Some.ensures.expired in
    let k = key c.in-Some.row.now.kind c.id.result.now in
    let there = ap (λ l. row_under l rows) (key_is c.in-Some.row.now c.id.result.now c.id.ensures) ∙ found.1 in
    let after : c.remove.new.self ≡ database_after_removal rows k = c.remove.ensures.database ∙ ap (λ l. database_after_removal l k) (sym c.self.view_is) in
    rw (← c.self.view_is) (subst (λ l. length l < length rows) (sym after) (fewer_after k found.0 rows c.self.invariant.database.rising there))

pub returns-clause-passed : goal.returns-clause-passed
returns-clause-passed c =
    let rows = c.self.inside.rows in
    let k = key c.in-Some.row.now.kind c.id.result.now in
    let walk = c.next_expired.new.self in
    let after : c.remove.new.self ≡ database_after_removal rows k = c.remove.ensures.database ∙ ap (λ l. database_after_removal l k) (sym c.self.view_is) in
    subst (HasPassed walk) (sym after) (all_filtered (λ row. is_below walk.from row ≡ true → OutlastsAmong walk row) (λ row. not (is_under k row)) rows c.next_expired.ensures.passed)

pub returns-clause-buckets : goal.returns-clause-buckets
returns-clause-buckets c = λ buckets passed.
    let rows = c.self.inside.rows in
    let k = key c.in-Some.row.now.kind c.id.result.now in
    let after : c.remove.new.self ≡ database_after_removal rows k = c.remove.ensures.database ∙ ap (λ l. database_after_removal l k) (sym c.self.view_is) in
    subst (HasPassedBuckets buckets) (sym after) (all_filtered (OutlastsBefore buckets) (λ row. not (is_under k row)) rows (subst (HasPassedBuckets buckets) (sym c.self.view_is) passed))
