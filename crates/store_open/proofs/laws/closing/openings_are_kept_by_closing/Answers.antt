-- The law is a lemma.
use Rattle.store_open.proofs.Kept.{kept_by_closing}
use Rattle.store_open.proofs.laws.closing.openings_are_kept_by_closing.Goals as goal

pub returns : goal.returns
returns g c = kept_by_closing _ _
