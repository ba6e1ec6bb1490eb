use Rattle.std.proofs.Common.{◌≤◌, sym, subst}
use Rattle.seg_check.specs.Expiry.{expiry_of}
use Rattle.row_map.specs.Database.{RowView}
use Rattle.row_map.specs.RowMap.{views_of, NoneExpiresBefore}
use Rattle.row_map.specs.Buckets.{IsBoundedBy}
use Rattle.row_map.proofs.Bucketed.{all_both}
use Rattle.row_map.proofs.row_map.RowMap.keep_least_expiry.Goals as goal

pub invariant_of-self : goal.invariant_of-self
invariant_of-self c = record {
  own = c.self.invariant.own;
  rising = c.self.invariant.rising;
  counted = c.self.invariant.counted;
  bounded = all_both (IsBoundedBy c.self.inside.bounds) (λ (row : RowView). c.args.least ≤ expiry_of row.1) (IsBoundedBy c.keep_least.new.self) (views_of c.self.inside.rows.entries) c.keep_least.ensures c.self.invariant.bounded
      (subst (NoneExpiresBefore c.args.least) (sym c.self.view_is) c.requires);
}
