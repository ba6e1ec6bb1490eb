use Rattle.std.proofs.Common.{sym, subst}
use Rattle.row_map.specs.RowMap.{views_of}
use Rattle.row_map.specs.Buckets.{IsBoundedBy}
use Rattle.row_map.specs.Purge.{OutlastsBefore, HasPassedBuckets}
use Rattle.row_map.proofs.Bucketed.{all_both}
use Rattle.row_map.proofs.row_map.RowMap.pass_lasting.Goals as goal

pub returns-clause-passed : goal.returns-clause-passed
returns-clause-passed c =
    let before = c.args.walk.now in
    let after = c.pass_lasting.new.walk in
    subst (HasPassedBuckets after) c.self.view_is
    (all_both (IsBoundedBy c.self.inside.bounds) (OutlastsBefore before) (OutlastsBefore after) (views_of c.self.inside.rows.entries) c.pass_lasting.ensures.passed c.self.invariant.bounded
    (subst (HasPassedBuckets before) (sym c.self.view_is) c.requires.passed))
