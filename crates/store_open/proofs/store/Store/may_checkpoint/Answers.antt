-- Goals that the search finds itself.
use Rattle.std.proofs.Common.{rules}
use Rattle.store_open.proofs.store.Store.may_checkpoint.Goals as goal

pub returns-then-encoded_len-area_room : goal.returns-then-encoded_len-area_room
returns-then-encoded_len-area_room g c = search rules

pub returns : goal.returns
returns g c = search rules
