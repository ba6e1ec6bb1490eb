use Rattle.std.proofs.Common.{◌+◌, ◌≤◌, vec_len, vec_capacity}
use Rattle.pw_wire.proofs.Encoding.{EncodedSoFar}
use Rattle.pw_wire.proofs.writing.push_varint.Given as goal

abbrev pub invariant-loop : goal.invariant-loop
invariant-loop l = record {
  encoded : EncodedSoFar l.fn.out.items l.out.items l.n l.rest l.counter;
  len : vec_len l.out ≤ vec_len l.fn.out + l.counter;
  capacity : vec_capacity l.fn.out ≤ vec_capacity l.out;
}
