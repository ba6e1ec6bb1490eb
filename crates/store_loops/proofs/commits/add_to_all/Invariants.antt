use Rattle.std.proofs.Common.{◌≡◌, ◌++◌, map, take, drop}
use Rattle.store_loops.specs.Commits.{bucket_after}
use Rattle.store_loops.proofs.commits.add_to_all.Given as goal

-- the buckets so far are counted, and the others are as they were
abbrev pub invariant-loop-bucket : goal.invariant-loop-bucket
invariant-loop-bucket l = l.buckets ≡ map (bucket_after l.microseconds) (take l.bucket-index l.fn.buckets) ++ drop l.bucket-index l.fn.buckets
