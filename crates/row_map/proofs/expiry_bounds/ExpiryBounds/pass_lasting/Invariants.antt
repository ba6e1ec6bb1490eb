use Rattle.std.proofs.Common.{◌-◌, ◌≡◌, ◌≤◌, true}
use Rattle.row_map.specs.Database.{RowView}
use Rattle.row_map.specs.Buckets.{bucket_count, first_key, is_before, IsBoundedBy}
use Rattle.row_map.specs.Purge.{Outlasts, OutlastsBefore}
use Rattle.row_map.proofs.expiry_bounds.ExpiryBounds.pass_lasting.Given as goal

abbrev pub invariant-loop-bucket : goal.invariant-loop-bucket
invariant-loop-bucket l = record {
  passed : (row : RowView) → IsBoundedBy l.self row → OutlastsBefore l.fn.walk row → is_before (first_key l.bucket) row ≡ true → Outlasts l.fn.walk.moment l.least row;
  onwards : l.fn.walk.bucket ≤ l.bucket;
  within : l.bucket ≤ bucket_count;
}

abbrev pub decreases-loop-bucket : goal.decreases-loop-bucket
decreases-loop-bucket l = l.count - l.bucket
