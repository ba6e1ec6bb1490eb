use Rattle.std.proofs.Common.{◌≡◌, ◌+◌, ◌<◌, ◌^◌, length}
use Rattle.pw_wire.specs.Varint.{varint_encoding}
use Rattle.seg_core.proofs.lengths.varint_len.Given as goal

abbrev pub invariant-loop-rest : goal.invariant-loop-rest
invariant-loop-rest l = record {
  counted : l.len + length (varint_encoding l.rest) ≡ length (varint_encoding l.n) + 1;
  fits : l.rest < 2 ^ 64;
}

abbrev pub decreases-loop-rest : goal.decreases-loop-rest
decreases-loop-rest l = l.rest
