use Rattle.std.proofs.Common.{ap, ◌∙◌, not, ◌&&◌}
use Rattle.row_map.specs.IndexKey.{has, is_same}
use Rattle.row_map.proofs.Tests.{cond-and, same_both_ways}
use Rattle.row_map.proofs.IndexRows.{remove_known}
use Rattle.row_map.proofs.index.EndIndex.remove.Goals as goal

pub returns-clause-gone : goal.returns-clause-gone
returns-clause-gone c = λ q. rw (← c.self.view_is) (c.remove.ensures.updates.0 q ∙ cond-and (is_same c.args.index_row.now q) (has c.self.inside.index_rows.keys q) ∙ ap (λ b. not b && has c.self.inside.index_rows.keys q) (same_both_ways c.args.index_row.now q))

pub returns-clause-rows : goal.returns-clause-rows
returns-clause-rows c = λ known row all.
    rw c.remove.ensures.keys (remove_known known row c.args.index_row.now c.self.inside.index_rows.keys c.len-count.ensures.ordered (rw c.self.view_is all))
