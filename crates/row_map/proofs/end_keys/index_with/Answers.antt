use Rattle.std.proofs.Common.{List, [], ◌++◌, ap, ◌∙◌, subst, arith}
use Rattle.row_map.specs.IndexKey.{IndexKey}
use Rattle.row_map.proofs.Appended.{IsIndexWith, last_added, last_kept, all_added}
use Rattle.row_map.proofs.Purged.{append_none}
use Rattle.row_map.proofs.PutRow.{no_items}
use Rattle.row_map.proofs.end_keys.index_with.Goals as goal

pub loop-index_row-preserved-in-Continue-branch-2 : goal.loop-index_row-preserved-in-Continue-branch-2
loop-index_row-preserved-in-Continue-branch-2 c = λ end rows whole.
    let others = c.loop-index_row.others.items in
    let now = c.loop-index_row.index in
    last_added end rows others c.pop.new.self.items now c.add.new.self c.in-Some.index_row c.in_ok-add.ensures.ok c.in_ok-add.ensures.rows
    (subst (λ (l : List IndexKey). IsIndexWith end rows (others ++ l) now) c.in-Some.ensures.items (c.loop-index_row.invariant end rows whole))

pub loop-index_row-preserved : goal.loop-index_row-preserved
loop-index_row-preserved c = λ end rows whole.
    let others = c.loop-index_row.others.items in
    let now = c.loop-index_row.index in
    rw (c.in_ok-push.ensures.items)
    (last_kept end rows others c.pop.new.self.items now c.in-Some.index_row
    (subst (λ (l : List IndexKey). IsIndexWith end rows (others ++ l) now) c.in-Some.ensures.items (c.loop-index_row.invariant end rows whole)))

pub loop-other-init : goal.loop-other-init
loop-other-init c = λ end rows whole.
    let others = c.loop-index_row.others.items in
    let none = no_items c.loop-index_row.left.items (omega (arith, c.in_default.ensures.cases.0, c.loop-index_row.left.ok.0)) in
    subst (λ (l : List IndexKey). IsIndexWith end rows l c.loop-index_row.index) (ap (λ (l : List IndexKey). others ++ l) none ∙ append_none others) (c.loop-index_row.invariant end rows whole)

pub loop-other-preserved : goal.loop-other-preserved
loop-other-preserved c = λ end rows whole.
    let now = c.loop-other.index in
    last_added end rows [] c.pop-in-loop-other.new.self.items now c.add-in-Some-pop.new.self c.in-Some-pop.other c.in_ok-add-2.ensures.ok c.in_ok-add-2.ensures.rows
    (subst (λ (l : List IndexKey). IsIndexWith end rows l now) c.in-Some-pop.ensures.items (c.loop-other.invariant end rows whole))

pub returns : goal.returns
returns c = λ end rows whole.
    let now = c.loop-other.index in
    let none = no_items c.loop-other.others.items (omega (arith, c.in_default-pop.ensures.cases.0, c.loop-other.others.ok.0)) in
    all_added end rows now (subst (λ (l : List IndexKey). IsIndexWith end rows l now) none (c.loop-other.invariant end rows whole))
