use Rattle.std.proofs.Common.{◌≡◌, length}
use Rattle.row_map.specs.declared.bucket_walk.BucketWalk.{BucketWalk}
use Rattle.row_map.specs.Drops.{database_after_purge}
use Rattle.row_map.specs.Purge.{HasPassed, HasPassedBuckets}
use Rattle.path_db.proofs.database.PathDb.purge_among.Given as goal

abbrev pub invariant-loop : goal.invariant-loop
invariant-loop l = record {
  purged : database_after_purge l.self l.fn.walk.moment ≡ database_after_purge l.fn.self l.fn.walk.moment;
  passed : HasPassed l.walk l.self;
  buckets : (buckets : BucketWalk) → HasPassedBuckets buckets l.fn.self → HasPassedBuckets buckets l.self;
  moment : l.walk.moment ≡ l.fn.walk.moment;
  low : l.walk.low ≡ l.fn.walk.low;
  high : l.walk.high ≡ l.fn.walk.high;
}

abbrev pub decreases-loop : goal.decreases-loop
decreases-loop l = length l.self
