use Rattle.std.proofs.Common.{◌≡◌, drop}
use Rattle.ckpt_stream.specs.Sums.{sum_of, sum_more}
use Rattle.ckpt_stream.proofs.sums.sum_of.Given as goal

-- The sum so far, with the bytes that are left, is the sum of all.
abbrev pub invariant-loop-byte : goal.invariant-loop-byte
invariant-loop-byte l = sum_more l.sum (drop l.byte-index l.bytes) ≡ sum_of l.bytes
