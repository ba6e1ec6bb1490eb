use Rattle.std.proofs.Common.{◌≡◌, ◌-◌, ◌≤◌}
use Rattle.row_map.specs.Drops.{database_after_purge}
use Rattle.row_map.specs.Buckets.{bucket_count}
use Rattle.row_map.specs.Purge.{HasPassedBuckets}
use Rattle.path_db.proofs.database.PathDb.purge.Given as goal

abbrev pub invariant-loop-walk : goal.invariant-loop-walk
invariant-loop-walk l = record {
  purged : database_after_purge l.self l.moment ≡ database_after_purge l.fn.self l.moment;
  passed : HasPassedBuckets l.walk l.self;
  within : l.walk.bucket ≤ bucket_count;
  moment : l.walk.moment ≡ l.moment;
}

abbrev pub decreases-loop-walk : goal.decreases-loop-walk
decreases-loop-walk l = bucket_count - l.walk.bucket
