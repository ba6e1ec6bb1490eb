use Rattle.std.proofs.Common.{sym, subst}
use Rattle.row_map.specs.RowMap.{views_of}
use Rattle.row_map.specs.Buckets.{IsBoundedBy}
use Rattle.row_map.specs.Purge.{OutlastsAmong, AllOutlast}
use Rattle.row_map.proofs.Bucketed.{all_both}
use Rattle.row_map.proofs.row_map.RowMap.keep_found.Goals as goal

pub invariant_of-self : goal.invariant_of-self
invariant_of-self c =
    let walk = c.args.walk.now in
    record {
      own = c.self.invariant.own;
      rising = c.self.invariant.rising;
      counted = c.self.invariant.counted;
      bounded = all_both (IsBoundedBy c.self.inside.bounds) (OutlastsAmong walk) (IsBoundedBy c.keep.new.self) (views_of c.self.inside.rows.entries) (λ row bounded so. c.keep.ensures row bounded (λ among. (so among).1)) c.self.invariant.bounded
          (subst (AllOutlast walk) (sym c.self.view_is) c.requires);
    }
