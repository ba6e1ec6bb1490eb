use Rattle.std.proofs.Common.{◌≡◌, refl, Option, Some, ap, sym, ◌∙◌, subst}
use Rattle.std.specs.Option.{option_map}
use Rattle.row_map.specs.Database.{RowView, key, row_under}
use Rattle.row_map.specs.Row.{row_view}
use Rattle.row_map.specs.Saved.{PutsBack}
use Rattle.row_map.proofs.PutRow.{removal_leaves, set_holds, back_leaves}
use Rattle.row_map.proofs.row_puts.put_back.Goals as goal

pub returns-in-Some-clause-back : goal.returns-in-Some-clause-back
returns-in-Some-clause-back c =
    let is : option_map row_view c.args.old.row ≡ Some (row_view c.in-Some.row) = ap (option_map row_view) c.in-Some.is in
    let l = key c.args.old.kind c.args.old.id in
    subst (λ (o : Option RowView). PutsBack (l, o) c.args.rows.now c.set.new.self) (sym is)
    (λ orig e there k. back_leaves l orig c.args.rows.now c.set.new.self (row_view c.in-Some.row) e (there refl)
    (set_holds c.set.result c.args.rows.now c.set.new.self (row_view c.in-Some.row) (rw (← c.in-Some.row-is) c.set.ensures.ok) (rw (← c.in-Some.row-is) c.set.ensures.absent)) k)

pub returns-in-None-clause-back : goal.returns-in-None-clause-back
returns-in-None-clause-back c =
    rw c.in-None.is
    (λ orig e there k. ap (row_under k) c.remove.ensures.left ∙ removal_leaves k (key c.args.old.kind c.args.old.id) c.args.rows.now c.remove.ensures.was_rising)
