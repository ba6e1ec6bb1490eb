-- How many sectors are compared.
use Rattle.std.proofs.Common.{◌≡◌, ◌+◌}
use Rattle.byte_lists.specs.Content.{part}
use Rattle.ckpt_stream.specs.Sums.{sums_in}
use Rattle.ckpt_stream.proofs.sums.have_sums.Given as goal

-- All sums are equal exactly where those that are left are.
abbrev pub invariant-sectors : goal.invariant-sectors
invariant-sectors l = record {
  end : l.sector + l.left ≡ l.fn.first + l.fn.count;
  up : part l.sector l.left l.sums ≡ sums_in l.left l.sector l.bytes → part l.fn.first l.fn.count l.sums ≡ sums_in l.fn.count l.fn.first l.fn.bytes;
  down : part l.fn.first l.fn.count l.sums ≡ sums_in l.fn.count l.fn.first l.fn.bytes → part l.sector l.left l.sums ≡ sums_in l.left l.sector l.bytes;
}

abbrev pub decreases-sectors : goal.decreases-sectors
decreases-sectors l = l.left
