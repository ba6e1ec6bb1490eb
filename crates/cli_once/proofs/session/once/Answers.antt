use Rattle.cli_once.proofs.Kept.{session_by}
use Rattle.cli_once.proofs.Unserved.{unserved}
use Rattle.cli_once.proofs.session.once.Goals as goal

pub returns-in_default : goal.returns-in_default
returns-in_default g c = unserved _ _ _ _ _ _

pub returns : goal.returns
returns g c = session_by _ _ _ _ _ _ _ _ _ _ _ c.in-Ok.ensures c.serve-served.ensures.served
