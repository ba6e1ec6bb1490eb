use Rattle.std.proofs.Common.{◌-◌, arith}
use Rattle.pw_wire.proofs.VarintReading.{shift-seven, shift-last, low-fits, is_truncated, is_last, goes_on, after_nine, is_tenth, is_too_long}
use Rattle.pw_wire.proofs.varint.long_varint.Goals as goal

pub returns-then-i-bytes-clause-exact : goal.returns-then-i-bytes-clause-exact
returns-then-i-bytes-clause-exact c = is_truncated c.args.bytes.now c.loop-i.i c.loop-i.low c.loop-i.shift c.loop-i.invariant c.if-i-bytes.true

pub overflow_add-result : goal.overflow_add-result
overflow_add-result c = omega (arith, low-fits c.from-byte.result c.loop-i.low c.loop-i.shift c.loop-i.i c.loop-i.invariant.small c.loop-i.invariant.shift_is c.if-byte-lt128.true c.loop-i-test.true)

pub returns-then-byte-lt128-clause-exact : goal.returns-then-byte-lt128-clause-exact
returns-then-byte-lt128-clause-exact c =
    rw (shift-seven c.from-byte.result c.loop-i.shift c.loop-i.i c.if-byte-lt128.true c.loop-i.invariant.shift_is c.loop-i-test.true, c.from-byte.ensures)
    (is_last c.args.bytes.now c.loop-i.i c.loop-i.low c.loop-i.shift c.loop-i.invariant c.loop-i-test.true c.if-i-bytes.false (omega arith))

pub overflow_add-low : goal.overflow_add-low
overflow_add-low c = omega (arith, low-fits (c.from-byte.result - 128) c.loop-i.low c.loop-i.shift c.loop-i.i c.loop-i.invariant.small c.loop-i.invariant.shift_is (omega arith) c.loop-i-test.true)

pub loop-i-preserved : goal.loop-i-preserved
loop-i-preserved c =
    rw (shift-seven (c.from-byte.result - 128) c.loop-i.shift c.loop-i.i (omega arith) c.loop-i.invariant.shift_is c.loop-i-test.true, c.from-byte.ensures)
    (goes_on c.args.bytes.now c.loop-i.i c.loop-i.low c.loop-i.shift c.loop-i.invariant c.loop-i-test.true c.if-i-bytes.false (omega arith) (omega (arith, c.type_inv.bytes c.loop-i.i)))

pub returns-then-bytes-le9-clause-exact : goal.returns-then-bytes-le9-clause-exact
returns-then-bytes-le9-clause-exact c =
    is_truncated c.args.bytes.now 9 c.loop-i.low c.loop-i.shift (after_nine c.args.bytes.now c.loop-i.i c.loop-i.low c.loop-i.shift c.loop-i.invariant c.loop-i.auto.i-end c.loop-i-test.false) c.if-bytes-le9.true

pub returns-then-last-lt2-clause-exact : goal.returns-then-last-lt2-clause-exact
returns-then-last-lt2-clause-exact c =
    let nine = after_nine c.args.bytes.now c.loop-i.i c.loop-i.low c.loop-i.shift c.loop-i.invariant c.loop-i.auto.i-end c.loop-i-test.false in
    rw (shift-last c.from-last.result c.loop-i.shift c.if-last-lt2.true nine.shift_is, c.from-last.ensures)
    (is_tenth c.args.bytes.now c.loop-i.low c.loop-i.shift nine c.if-bytes-le9.false (omega arith))

pub returns-else-last-lt2-clause-exact : goal.returns-else-last-lt2-clause-exact
returns-else-last-lt2-clause-exact c =
    is_too_long c.args.bytes.now c.loop-i.low c.loop-i.shift (after_nine c.args.bytes.now c.loop-i.i c.loop-i.low c.loop-i.shift c.loop-i.invariant c.loop-i.auto.i-end c.loop-i-test.false) c.if-bytes-le9.false (omega arith)
