-- Each message takes some bytes of the rest.
use Rattle.std.proofs.Common.{length}
use Rattle.cli_ask.proofs.reply.segments_of.Given as goal

abbrev pub decreases-loop-rest : goal.decreases-loop-rest
decreases-loop-rest l = length l.rest
