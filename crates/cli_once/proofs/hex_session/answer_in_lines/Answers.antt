use Rattle.cli_once.proofs.Kept.{lines_by}
use Rattle.cli_once.proofs.Unserved.{unanswered}
use Rattle.cli_once.proofs.hex_session.answer_in_lines.Goals as goal

pub returns-in_default : goal.returns-in_default
returns-in_default g c = unanswered _ _ _

pub returns : goal.returns
returns g c = lines_by _ _ _ _ _ _ _ c.in-Ok.ensures c.serve_in_lines-served.ensures
