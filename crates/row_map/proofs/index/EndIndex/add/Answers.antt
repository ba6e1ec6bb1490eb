use Rattle.std.proofs.Common.{ap, ◌∙◌, ◌||◌}
use Rattle.row_map.specs.IndexKey.{has, is_same}
use Rattle.row_map.proofs.Tests.{cond-or, same_both_ways}
use Rattle.row_map.proofs.IndexRows.{insert_known}
use Rattle.row_map.proofs.index.EndIndex.add.Goals as goal

pub returns-clause-ok : goal.returns-clause-ok
returns-clause-ok c = λ q. rw (← c.self.view_is) (c.in_ok-insert.ensures.updates.0 q ∙ cond-or (is_same c.args.index_row q) (has c.self.inside.index_rows.keys q) ∙ ap (λ b. b || has c.self.inside.index_rows.keys q) (same_both_ways c.args.index_row q))

pub returns-clause-rows : goal.returns-clause-rows
returns-clause-rows c = λ known row all one.
    rw c.in_ok-insert.ensures.keys (insert_known known row c.args.index_row c.self.inside.index_rows.keys one (rw c.self.view_is all))
