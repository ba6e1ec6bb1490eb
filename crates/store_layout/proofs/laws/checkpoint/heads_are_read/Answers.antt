use Rattle.store_layout.proofs.Heads.{is_head_read_so, is_head_refused_so, head_goes_by_its_front}
use Rattle.store_layout.proofs.laws.checkpoint.heads_are_read.Goals as goal

pub returns-clause-read : goal.returns-clause-read
returns-clause-read c = is_head_read_so

pub returns-clause-refused : goal.returns-clause-refused
returns-clause-refused c = is_head_refused_so

pub returns-clause-front : goal.returns-clause-front
returns-clause-front c = head_goes_by_its_front
