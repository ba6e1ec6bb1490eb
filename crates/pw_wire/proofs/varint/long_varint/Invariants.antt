use Rattle.pw_wire.proofs.VarintReading.{ReadSoFar}
use Rattle.pw_wire.proofs.varint.long_varint.Given as goal

abbrev pub invariant-loop-i : goal.invariant-loop-i
invariant-loop-i l = ReadSoFar l.bytes l.i l.low l.shift
