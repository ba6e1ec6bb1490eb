use Rattle.store_layout.proofs.Titles.{is_store_read_so, first_sector_makes_store}
use Rattle.store_layout.proofs.laws.checkpoint.first_sectors_are_read.Goals as goal

pub returns-clause-read : goal.returns-clause-read
returns-clause-read c = is_store_read_so

pub returns-clause-written : goal.returns-clause-written
returns-clause-written c = first_sector_makes_store
