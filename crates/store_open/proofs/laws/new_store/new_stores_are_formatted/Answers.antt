-- The law is a lemma.
use Rattle.store_open.proofs.NewStores.{formatted_in_any}
use Rattle.store_open.proofs.laws.new_store.new_stores_are_formatted.Goals as goal

pub returns : goal.returns
returns g c = formatted_in_any _ _
