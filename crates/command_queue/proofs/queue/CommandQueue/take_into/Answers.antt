use Rattle.std.proofs.Common.{length, ap, arith, length-append}
use Rattle.command_queue.proofs.queue.CommandQueue.take_into.Goals as goal

-- this many were moved, and this many had waited
pub returns-after-loop-clause-count : goal.returns-after-loop-clause-count
returns-after-loop-clause-count g c =
    let all = ap length c.loop.invariant.order in
    let there = length-append c.loop.batch.items c.loop.self.waiting.items in
    let were = length-append c.args.batch.now.items c.args.self.now.waiting.items in
    let a = c.loop.batch.ok.0 in
    let b = c.args.batch.now.ok.0 in
    omega (arith, all, there, were, a, b, c.loop.invariant.count, c.loop-test.false, c.loop.auto.counter-end)
