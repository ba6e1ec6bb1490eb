-- The first bytes are there, and they are those that came.
use Rattle.std.proofs.Common.{◌-◌, ◌≤◌, length, take}
use Rattle.cli_ask.specs.Talk.{Passes, came}
use Rattle.cli_ask.proofs.answers.fill.Given as goal

abbrev pub invariant-loop-at : goal.invariant-loop-at
invariant-loop-at g l = record {
  within : l.at ≤ length l.into;
  passed : Passes (g.L.Link.talk l.fn.link) (g.L.Link.talk l.link) (came (take l.at l.into));
}

abbrev pub decreases-loop-at : goal.decreases-loop-at
decreases-loop-at g l = length l.initial.into - l.at
