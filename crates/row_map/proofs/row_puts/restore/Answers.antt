use Rattle.std.proofs.Common.{[], ◌∷◌, List, map, ap, ◌∙◌, subst, arith}
use Rattle.std.proofs.lemmas.List.{map-append}
use Rattle.row_map.specs.Saved.{Stood, saved_view, IsLeft}
use Rattle.row_map.proofs.PutRow.{left_less, nothing_left, no_items}
use Rattle.row_map.proofs.row_puts.restore.Goals as goal

pub loop-old-init : goal.loop-old-init
loop-old-init c = record {
  left = λ orig left. left;
  rising = λ rising. rising;
}

pub loop-old-preserved : goal.loop-old-preserved
loop-old-preserved c =
    let now = c.loop-old.rows in
    let rest = c.pop.new.self.items in
    let popped = ap (map saved_view) c.in-Some.ensures.items ∙ map-append saved_view rest (c.in-Some.old ∷ []) in
    record {
      left = λ orig left. left_less orig now c.put_back.new.rows (map saved_view rest) (saved_view c.in-Some.old) (subst (λ (l : List Stood). IsLeft orig l now) popped (c.loop-old.invariant.left orig left)) c.put_back.ensures.back;
      rising = λ rising. c.put_back.ensures.rising;
    }

pub returns : goal.returns
returns c = λ orig rising so left.
    let none = no_items c.loop-old.saved.items (omega (arith, c.in_default.ensures.cases.0, c.loop-old.saved.ok.0)) in
    let now = subst (λ (l : List Stood). IsLeft orig l c.loop-old.rows) (ap (map saved_view) none) (c.loop-old.invariant.left orig left) in
    nothing_left orig c.loop-old.rows rising (c.loop-old.invariant.rising so) now
