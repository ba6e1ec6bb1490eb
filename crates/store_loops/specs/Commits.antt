-- How long commits took.
use Rattle.std.specs.Prelude.{ℕ, ◌+◌, ◌-◌, ◌^◌, min, nat_le, if◌then◌else◌, map}
use Rattle.store_loops.specs.declared.commits.Bucket.{Bucket}
use Rattle.store_loops.specs.declared.commits.CommitTimes.{CommitTimes}

-- One more, at most 2^64 - 1.
abbrev pub one_more : ℕ → ℕ
one_more count = min (count + 1) (2 ^ 64 - 1)

-- A bucket after one more commit, which took this many microseconds.
abbrev pub bucket_after : ℕ → Bucket → Bucket
bucket_after microseconds bucket = record {
  microseconds = bucket.microseconds;
  count = if nat_le microseconds bucket.microseconds then one_more bucket.count else bucket.count;
}

-- The times of commits after one more commit, which took this many microseconds.
abbrev pub times_after : ℕ → CommitTimes → CommitTimes
times_after microseconds times = record {
  buckets = map (bucket_after microseconds) times.buckets;
  count = one_more times.count;
  microseconds = min (times.microseconds + microseconds) (2 ^ 64 - 1);
}
