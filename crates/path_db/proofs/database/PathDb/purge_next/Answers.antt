use Rattle.std.proofs.Common.{rules, ◌≡◌, sym, ap, ◌∙◌, subst}
use Rattle.row_map.specs.Drops.{database_after_purge}
use Rattle.row_map.specs.Buckets.{bucket_count, first_key, is_before}
use Rattle.row_map.specs.Purge.{Outlasts, OutlastsAmong, AllOutlast, OutlastsBefore, HasPassedBuckets}
use Rattle.row_map.proofs.Exports.{all_implied, all_both, all_before, none_left, outlast_bounded}
use Rattle.path_db.proofs.database.PathDb.purge_next.Goals as goal

pub keep_least_expiry-requires : goal.keep_least_expiry-requires
keep_least_expiry-requires c =
    let walk = c.pass_lasting-end.new.walk in
    let rows = c.self.inside.rows in
    let last : walk.bucket ≡ bucket_count = search (rules, c.if-walk-eq-BUCKETS.true) in
    let all = all_implied (OutlastsBefore walk) (Outlasts walk.moment walk.least) rows (λ row so. so (ap (λ n. is_before (first_key n) row) last ∙ all_before row)) c.pass_lasting-end.ensures.passed in
    outlast_bounded walk.moment walk.least rows all

pub returns-then-walk-eq-BUCKETS-clause-none : goal.returns-then-walk-eq-BUCKETS-clause-none
returns-then-walk-eq-BUCKETS-clause-none c = λ e.
    let walk = c.pass_lasting-end.new.walk in
    let moment = c.args.walk.now.moment in
    let rows = c.self.inside.rows in
    let last : walk.bucket ≡ bucket_count = search (rules, c.if-walk-eq-BUCKETS.true) in
    let all = all_implied (OutlastsBefore walk) (Outlasts walk.moment walk.least) rows (λ row so. so (ap (λ n. is_before (first_key n) row) last ∙ all_before row)) c.pass_lasting-end.ensures.passed in
    let same = c.keep_least_expiry.ensures in
    ap (λ l. database_after_purge l moment) same ∙ ap (database_after_purge rows) (sym c.pass_lasting-end.ensures.moment) ∙ none_left walk.moment walk.least rows all ∙ sym same

pub returns-clause-passed : goal.returns-clause-passed
returns-clause-passed c =
    let before = c.pass_lasting-end.new.walk in
    let walk = c.purge_among.new.walk in
    let view = sym c.self-2.view_is in
    let passed = c.purge_among.ensures.buckets before (subst (HasPassedBuckets before) c.self.view_is c.pass_lasting-end.ensures.passed) in
    all_both (OutlastsBefore before) (OutlastsAmong walk) (OutlastsBefore c.pass.new.self) c.self-2.inside.rows c.pass.ensures.passed (subst (HasPassedBuckets before) view passed) (subst (AllOutlast walk) view c.purge_among.ensures.outlast)
