-- The reply that came is the acknowledgement.
use Rattle.cli_ask.proofs.purging.drop_by.Goals as goal

pub returns : goal.returns
returns g c = rw c.in-Purged.is at c.in_ok-ack.ensures.reply
