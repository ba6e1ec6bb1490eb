use Rattle.std.proofs.Common.{◌≡◌, ◌-◌, ◌^◌, min, take, sum}
use Rattle.status_server.proofs.lookup_times.total_of.Given as goal

-- the total of the counts so far
abbrev pub invariant-loop-count : goal.invariant-loop-count
invariant-loop-count l = l.total ≡ min (sum (take l.count-index l.counts)) (2 ^ 64 - 1)
