-- The bytes that came and those that are left are the wanted number.
use Rattle.std.proofs.Common.{◌≡◌, ◌+◌, length}
use Rattle.cli_ask.specs.Talk.{Passes, came}
use Rattle.cli_ask.proofs.answers.content_of.Given as goal

abbrev pub invariant-loop-left : goal.invariant-loop-left
invariant-loop-left g l = record {
  count : length l.content.items + l.left ≡ l.fn.len;
  passed : Passes (g.L.Link.talk l.fn.link) (g.L.Link.talk l.link) (came l.content.items);
}

abbrev pub decreases-loop-left : goal.decreases-loop-left
decreases-loop-left g l = l.left
