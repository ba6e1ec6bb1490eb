-- The bytes of one more read came after those before it.
use Rattle.std.proofs.Common.{◌-◌, length, rules}
use Rattle.cli_ask.proofs.Talk.{came-more, take-filled}
use Rattle.cli_ask.proofs.answers.fill.Goals as goal

pub loop-at-preserved : goal.loop-at-preserved
loop-at-preserved g c =
    let joined = take-filled c.loop-at.at c.in_ok-at.field-0 (length c.loop-at.into - c.loop-at.at) c.loop-at.into c.some_of.new.into c.loop-at.invariant.within c.in_ok-at.ensures.most in
    record {
      within = search rules;
      passed = rw joined (came-more _ _ _ _ _ c.loop-at.invariant.passed c.in_ok-at.ensures.came);
    }
