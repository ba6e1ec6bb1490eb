-- Each write takes some bytes of the rest.
use Rattle.std.proofs.Common.{length}
use Rattle.cli_ask.proofs.link.TcpLink.send_all.Given as goal

abbrev pub decreases-loop-rest : goal.decreases-loop-rest
decreases-loop-rest g l = length l.rest
