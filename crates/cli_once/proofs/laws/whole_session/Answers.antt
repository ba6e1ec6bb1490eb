use Rattle.cli_once.proofs.SessionLemmas.{whole_session_of}
use Rattle.cli_once.proofs.laws.whole_session.Goals as goal

pub returns : goal.returns
returns c d = whole_session_of _
