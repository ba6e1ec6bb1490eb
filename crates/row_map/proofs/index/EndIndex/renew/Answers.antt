use Rattle.std.proofs.Common.{◌≡◌, inl, inr, true, ap, ◌∙◌, ◌||◌}
use Rattle.row_map.specs.IndexKey.{has, is_same, AreKnown}
use Rattle.row_map.proofs.Tests.{cond-or, cond-there, same_both_ways, unless_absent, by_result}
use Rattle.row_map.proofs.IndexRows.{replace_known, renew_known}
use Rattle.row_map.proofs.index.EndIndex.renew.Goals as goal

pub returns-clause-kept : goal.returns-clause-kept
returns-clause-kept c = λ there q.
    let keys = c.self.inside.index_rows.keys in
    let was : has keys c.args.index_row ≡ true = rw c.self.view_is there in
    let updates = unless_absent c.replace-replaced.result (has keys c.args.index_row) c.replace-replaced.ensures.updates c.replace-replaced.ensures.absent was in
    rw (← c.self.view_is) (updates.0 q ∙ cond-there c.args.index_row q keys was)

pub returns-clause-rows : goal.returns-clause-rows
returns-clause-rows c = λ there known row all its.
    let keys = c.self.inside.index_rows.keys in
    let was : has keys c.args.index_row ≡ true = rw c.self.view_is there in
    let is = unless_absent c.replace-replaced.result (has keys c.args.index_row) c.replace-replaced.ensures.keys c.replace-replaced.ensures.absent was in
    rw is (replace_known known row c.args.index_row its keys c.len-count.ensures.ordered was (rw c.self.view_is all))

pub returns-clause-other : goal.returns-clause-other
returns-clause-other c = λ absent.
    let keys = c.self.inside.index_rows.keys in
    let p = c.args.index_row in
    rw (← c.self.view_is) (elim (by_result c.replace-replaced.result c.replace-replaced.ensures.updates c.replace-replaced.ensures.err) [
      | inl same ↦ inl same
      | inr updates ↦ inr (λ q. updates.0 q ∙ cond-or (is_same p q) (has keys q) ∙ ap (λ b. b || has keys q) (same_both_ways p q))
    ])

pub returns-clause-known : goal.returns-clause-known
returns-clause-known c = λ known row all one.
    let keys = c.self.inside.index_rows.keys in
    let before : AreKnown known row keys = rw c.self.view_is all in
    elim (by_result c.replace-replaced.result c.replace-replaced.ensures.keys c.replace-replaced.ensures.err) [
      | inl same ↦ rw same before
      | inr replaced ↦ rw replaced (renew_known known row c.args.index_row keys one before)
    ]
