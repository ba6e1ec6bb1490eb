use Rattle.std.proofs.Common.{rules, ◌+◌, ◌<◌, ◌≤◌, length, get_or, arith}
use Rattle.row_map.specs.Purge.{Outlasts}
use Rattle.row_map.proofs.Bucketed.{passed_more, outlasts_lowered, outlasts_by_bound}
use Rattle.row_map.proofs.expiry_bounds.ExpiryBounds.pass_lasting.Goals as goal

pub loop-bucket-preserved : goal.loop-bucket-preserved
loop-bucket-preserved c =
    let moment = c.args.walk.now.moment in
    let bucket = c.loop-bucket.bucket in
    let least = c.loop-bucket.least in
    let lower = c.min-least.result in
    let bounds = c.args.self.now.by_bucket.items in
    let counted : bucket < c.min-count.result = search (rules, c.loop-bucket-test.true) in
    let within : bucket < length bounds = omega (arith, counted, c.min-count.ensures, c.as_slice-bounds.ensures.len) in
    let after : moment < get_or bounds bucket 0 = search (rules, c.if-bounds-bucket.true, c.as_slice-bounds.ensures.value) in
    let is_least : lower ≤ get_or bounds bucket 0 = search (rules, c.min-least.ensures, c.as_slice-bounds.ensures.value) in
    record {
      passed = λ row bounded before.
          passed_more (Outlasts moment lower) bucket (bucket + 1) row (λ e. outlasts_lowered moment least lower row (omega (arith, c.min-least.ensures)) (c.loop-bucket.invariant.passed row bounded before e))
          (λ among. outlasts_by_bound moment (get_or bounds bucket 0) lower row after (bounded.bucket bucket within among) is_least);
      onwards = omega (arith, c.loop-bucket.invariant.onwards);
      within = omega (arith, counted, c.min-count.ensures);
    }
