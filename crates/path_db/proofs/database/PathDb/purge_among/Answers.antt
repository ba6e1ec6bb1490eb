use Rattle.std.proofs.Common.{sym, ap, ◌∙◌, subst}
use Rattle.row_map.specs.Drops.{database_after_purge}
use Rattle.row_map.specs.Purge.{AllOutlast, HasPassedBuckets}
use Rattle.path_db.proofs.database.PathDb.purge_among.Goals as goal

pub loop-smaller : goal.loop-smaller
loop-smaller c = c.drop_next.ensures.dropped c.loop-test.true

pub loop-preserved : goal.loop-preserved
loop-preserved c =
    let at = c.loop.invariant.moment in
    record {
      purged = sym (ap (database_after_purge c.drop_next.new.self) at) ∙ c.drop_next.ensures.others ∙ ap (database_after_purge c.loop.self) at ∙ c.loop.invariant.purged;
      passed = c.drop_next.ensures.passed;
      buckets = λ buckets so. c.drop_next.ensures.buckets buckets (c.loop.invariant.buckets buckets so);
      moment = c.drop_next.ensures.moment ∙ at;
      low = c.drop_next.ensures.low ∙ c.loop.invariant.low;
      high = c.drop_next.ensures.high ∙ c.loop.invariant.high;
    }

pub keep_found-requires : goal.keep_found-requires
keep_found-requires c = subst (AllOutlast c.drop_next.new.walk) (sym c.self.view_is) (c.drop_next.ensures.none c.loop-test.false)

pub returns-clause-others : goal.returns-clause-others
returns-clause-others c =
    let at = c.loop.invariant.moment in
    let moment = c.args.walk.now.moment in
    ap (λ rows. database_after_purge rows moment) (c.keep_found.ensures ∙ c.self.view_is) ∙ sym (ap (database_after_purge c.drop_next.new.self) at) ∙ c.drop_next.ensures.others ∙ ap (database_after_purge c.loop.self) at ∙ c.loop.invariant.purged

pub returns-clause-outlast : goal.returns-clause-outlast
returns-clause-outlast c = subst (AllOutlast c.drop_next.new.walk) (sym (c.keep_found.ensures ∙ c.self.view_is)) (c.drop_next.ensures.none c.loop-test.false)

pub returns-clause-buckets : goal.returns-clause-buckets
returns-clause-buckets c = λ buckets so. subst (HasPassedBuckets buckets) (sym (c.keep_found.ensures ∙ c.self.view_is)) (c.drop_next.ensures.buckets buckets (c.loop.invariant.buckets buckets so))
