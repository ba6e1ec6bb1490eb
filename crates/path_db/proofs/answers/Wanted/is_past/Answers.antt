use Rattle.std.proofs.Common.{rules, ◌≡◌, ap, ◌∙◌, refl}
use Rattle.std.specs.Ordering.{nat_cmp, is_gt, is_lt, ordering_reverse}
use Rattle.std.specs.Cmp.Lexicographic.{slice_cmp}
use Rattle.std.specs.declared.cmp.Ordering.{Ordering}
use Rattle.std.specs.declared.cmp.Ordering.TheVariants.{Less, Equal, Greater}
use Rattle.std.proofs.lemmas.Cmp.{nat_list_cmp_total}
use Rattle.row_map.specs.Database.{RowView, key, key_of}
use Rattle.row_map.specs.Ranges.{is_after}
use Rattle.path_db.proofs.answers.Wanted.is_past.Goals as goal

turned : (o : Ordering) → is_gt (ordering_reverse o) ≡ is_lt o
turned Less = refl
turned Equal = refl
turned Greater = refl

pub returns-in-Some : goal.returns-in-Some
returns-in-Some c =
    let kind = c.args.self.now.kind in
    let row : RowView = (c.args.kind, c.args.segment.now) in
    let id = c.in-Some.id in
    let above : c.is_gt.result ≡ is_after kind id row =
    c.is_gt.ensures ∙ ap is_gt (c.cmp_key.ensures ∙ nat_list_cmp_total.antisymm (key_of row) (key kind id)) ∙ turned (slice_cmp nat_cmp (key kind id) (key_of row)) in
    search (rules, above)
