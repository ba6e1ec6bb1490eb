use Rattle.cli_once.proofs.SessionLemmas.{only_replies_of}
use Rattle.cli_once.proofs.laws.only_replies.Goals as goal

pub returns : goal.returns
returns c = only_replies_of
