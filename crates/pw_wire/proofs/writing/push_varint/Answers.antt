use Rattle.std.proofs.Common.{◌≡◌, ◌<◌, ◌+◌, ◌%◌, ◌++◌, ◌∷◌, [], ◌∙◌, arith}
use Rattle.pw_wire.proofs.Encoding.{at_start, goes_on, is_small, ends}
use Rattle.pw_wire.proofs.writing.push_varint.Goals as goal
use Rattle.pw_wire.proofs.writing.push_varint.Goals.{else-loop-test, then-loop-test+then-rest-lt128}

pub loop-init : goal.loop-init
loop-init c = record { encoded = at_start c.args.out.now.items c.args.n (omega arith); len = omega arith; capacity = omega arith }

pub loop-preserved : goal.loop-preserved
loop-preserved c =
    let items : c.push.new.self.items ≡ c.loop.out.items ++ (c.loop.rest % 128 + 128) ∷ [] = rw c.unwrap.ensures at c.push.ensures.items in
    record { encoded = rw items (goes_on c.args.out.now.items c.loop.out.items c.args.n c.loop.rest c.loop.counter c.loop.invariant.encoded c.loop-test.true c.if-rest-lt128.false); len = omega arith; capacity = omega arith }

pub returns-clause-items : goal.returns-clause-items
returns-clause-items c =
    let items : c.push-2.new.self.items ≡ c.loop.out.items ++ c.loop.rest ∷ [] = rw c.unwrap-2.ensures at c.push-2.ensures.items in
    let small : c.loop.rest < 128 = elim c.loop-test.branch [
      | else-loop-test w ↦ is_small c.loop.rest c.loop.counter w.loop-test.false c.loop.invariant.encoded.small
      | then-loop-test+then-rest-lt128 w ↦ w.if-rest-lt128.true
    ] in
    items ∙ ends c.args.out.now.items c.loop.out.items c.args.n c.loop.rest c.loop.counter c.loop.invariant.encoded small
