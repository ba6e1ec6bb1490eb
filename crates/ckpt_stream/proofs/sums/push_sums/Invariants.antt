-- How many sectors are summed.
use Rattle.std.proofs.Common.{◌≡◌, ◌+◌, ◌++◌}
use Rattle.ckpt_stream.specs.Sums.{sums_in}
use Rattle.ckpt_stream.proofs.sums.push_sums.Given as goal

-- The sums so far, and those of the bytes that are left, are all sums.
abbrev pub invariant-sectors : goal.invariant-sectors
invariant-sectors l = record {
  end : l.sector + l.left ≡ l.fn.first + l.fn.count;
  sums : l.sums.items ++ sums_in l.left l.sector l.bytes ≡ l.fn.sums.items ++ sums_in l.fn.count l.fn.first l.fn.bytes;
}

abbrev pub decreases-sectors : goal.decreases-sectors
decreases-sectors l = l.left
