use Rattle.std.proofs.Common.{◌≡◌}
use Rattle.status_server.specs.Refusals.{refusals_below}
use Rattle.status_server.proofs.refusals.refusals_of.Given as goal

-- the codes so far
abbrev pub invariant-loop-code : goal.invariant-loop-code
invariant-loop-code l = l.refusals.items ≡ refusals_below l.code l.counts
