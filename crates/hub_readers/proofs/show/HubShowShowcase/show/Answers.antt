use Rattle.std.proofs.Common.{◌≡◌, List, ◌++◌, ◌∙◌, ap, sym, subst, drop, rules}
use Rattle.left_right.specs.Sides.{view}
use Rattle.path_db.specs.declared.command.Command.{Command}
use Rattle.store_layout.specs.Journal.{all_of}
use Rattle.store_layout.specs.StoreValues.{value_after}
use Rattle.store_open.specs.PathStores.{store_format}
use Rattle.hub_readers.specs.Shown.{groups_with}
use Rattle.hub_readers.specs.Showcase.{IsHanded}
use Rattle.hub_readers.specs.Showing.{Showing}
use Rattle.hub_readers.proofs.Passing.{next_of, some_of, value_of, listed_of, paid_of, kept_of, groups_of}
use Rattle.hub_readers.proofs.show.HubShowShowcase.show.Goals as goal

-- the writer has the whole group after those that it had published
pub publish_in-requires-clause-next : goal.publish_in-requires-clause-next
publish_in-requires-clause-next g c =
    let now = c.hand_over-self-inside.new in
    let moved : (view now.writer.desk.place).groups ≡ (view c.self.inside.writer.desk.place).groups = (λ i. (view (c.hand_over-self-inside.ensures.desk i).place).groups) in
    let handed = subst (λ groups. IsHanded g.N.ReaderName.shown (all_of groups) c.args.group.now now.history (drop now.writer.behind now.writer.log.items) c.hand_over-self-inside.result) (sym moved) c.hand_over-self-inside.ensures.handed in
    next_of g.N.ReaderName.shown (view now.writer.desk.place).groups c.args.group.now now.history (drop now.writer.behind now.writer.log.items) c.hand_over-self-inside.result handed (search rules)

pub publish_in-requires-clause-some : goal.publish_in-requires-clause-some
publish_in-requires-clause-some g c = some_of g.N.ReaderName.shown (view c.self.inside.writer.desk.place).groups c.args.group.now c.hand_over-self-inside.new.history _ c.hand_over-self-inside.result c.hand_over-self-inside.ensures.handed (search rules) (search rules)

-- then it is published as one more
pub invariant_of-self-2 : goal.invariant_of-self-2
invariant_of-self-2 g c =
    let now = c.hand_over-self-inside.new in
    let after = c.publish_in.new.writer in
    let moved : (view now.writer.desk.place).groups ≡ (view c.self.inside.writer.desk.place).groups = (λ i. (view (c.hand_over-self-inside.ensures.desk i).place).groups) in
    let handed = subst (λ groups. IsHanded g.N.ReaderName.shown (all_of groups) c.args.group.now now.history (drop now.writer.behind now.writer.log.items) c.hand_over-self-inside.result) (sym moved) c.hand_over-self-inside.ensures.handed in
    kept_of g.N.ReaderName.shown (view now.writer.desk.place).groups c.args.group.now now.history (drop now.writer.behind now.writer.log.items) c.hand_over-self-inside.result handed (search rules)
    g.N.StateName.opening now.writer.desk.shown.value after.desk.shown.value (drop after.behind after.log.items) (view after.desk.place).groups c.in_ok-publish_in.ensures

pub returns-clause-shown : goal.returns-clause-shown
returns-clause-shown g c =
    let now = c.hand_over-self-inside.new in
    let after = c.publish_in.new.writer in
    let moved : (view now.writer.desk.place).groups ≡ (view c.self.inside.writer.desk.place).groups = (λ i. (view (c.hand_over-self-inside.ensures.desk i).place).groups) in
    let handed = subst (λ groups. IsHanded g.N.ReaderName.shown (all_of groups) c.args.group.now now.history (drop now.writer.behind now.writer.log.items) c.hand_over-self-inside.result) (sym moved) c.hand_over-self-inside.ensures.handed in
    value_of g.N.ReaderName.shown (view now.writer.desk.place).groups c.args.group.now now.history (drop now.writer.behind now.writer.log.items) c.hand_over-self-inside.result handed (search rules)
    g.N.StateName.opening now.writer.desk.shown.value after.desk.shown.value (drop after.behind after.log.items) (view after.desk.place).groups c.in_ok-publish_in.ensures
    ∙ (λ i. value_after store_format (c.hand_over-self-inside.ensures.desk i).shown.value.value c.args.group.now)
    ∙ ap (λ (s : Showing). value_after store_format s.value c.args.group.now) c.self.view_is

pub returns-clause-listed : goal.returns-clause-listed
returns-clause-listed g c =
    let now = c.hand_over-self-inside.new in
    let after = c.publish_in.new.writer in
    let moved : (view now.writer.desk.place).groups ≡ (view c.self.inside.writer.desk.place).groups = (λ i. (view (c.hand_over-self-inside.ensures.desk i).place).groups) in
    let handed = subst (λ groups. IsHanded g.N.ReaderName.shown (all_of groups) c.args.group.now now.history (drop now.writer.behind now.writer.log.items) c.hand_over-self-inside.result) (sym moved) c.hand_over-self-inside.ensures.handed in
    listed_of g.N.ReaderName.shown (view now.writer.desk.place).groups c.args.group.now now.history (drop now.writer.behind now.writer.log.items) c.hand_over-self-inside.result handed (search rules)
    g.N.StateName.opening now.writer.desk.shown.value after.desk.shown.value (drop after.behind after.log.items) (view after.desk.place).groups c.in_ok-publish_in.ensures
    ∙ ap (λ (groups : List (List Command)). all_of groups ++ c.args.group.now) moved
    ∙ ap (λ (s : Showing). all_of s.groups ++ c.args.group.now) c.self.view_is

pub returns-clause-paid : goal.returns-clause-paid
returns-clause-paid g c =
    let now = c.hand_over-self-inside.new in
    let after = c.publish_in.new.writer in
    let moved : (view now.writer.desk.place).groups ≡ (view c.self.inside.writer.desk.place).groups = (λ i. (view (c.hand_over-self-inside.ensures.desk i).place).groups) in
    let handed = subst (λ groups. IsHanded g.N.ReaderName.shown (all_of groups) c.args.group.now now.history (drop now.writer.behind now.writer.log.items) c.hand_over-self-inside.result) (sym moved) c.hand_over-self-inside.ensures.handed in
    paid_of g.N.ReaderName.shown (view now.writer.desk.place).groups c.args.group.now now.history (drop now.writer.behind now.writer.log.items) c.hand_over-self-inside.result handed (search rules)
    g.N.StateName.opening now.writer.desk.shown.value after.desk.shown.value (drop after.behind after.log.items) (view after.desk.place).groups c.in_ok-publish_in.ensures

pub returns-clause-groups : goal.returns-clause-groups
returns-clause-groups g c =
    let now = c.hand_over-self-inside.new in
    let after = c.publish_in.new.writer in
    let moved : (view now.writer.desk.place).groups ≡ (view c.self.inside.writer.desk.place).groups = (λ i. (view (c.hand_over-self-inside.ensures.desk i).place).groups) in
    let handed = subst (λ groups. IsHanded g.N.ReaderName.shown (all_of groups) c.args.group.now now.history (drop now.writer.behind now.writer.log.items) c.hand_over-self-inside.result) (sym moved) c.hand_over-self-inside.ensures.handed in
    groups_of g.N.ReaderName.shown (view now.writer.desk.place).groups c.args.group.now now.history (drop now.writer.behind now.writer.log.items) c.hand_over-self-inside.result handed (search rules)
    g.N.StateName.opening now.writer.desk.shown.value after.desk.shown.value (drop after.behind after.log.items) (view after.desk.place).groups c.in_ok-publish_in.ensures (search rules)
    ∙ ap (λ (groups : List (List Command)). groups_with groups c.args.group.now) moved
    ∙ ap (λ (s : Showing). groups_with s.groups c.args.group.now) c.self.view_is
