use Rattle.std.proofs.Common.{◌≡◌, ◌+◌, ◌*◌, ◌≤◌, ◌<◌, ◌^◌, arith, length, [], ◌∷◌, ◌++◌, sym, ap, ◌∙◌, subst}
use Rattle.std.specs.List.{AllByRecursion, count_by}
use Rattle.std.specs.Map.{values_of}
use Rattle.std.proofs.lemmas.List.{map-append, map-id}
use Rattle.std.proofs.lemmas.List.Sums.{sum_by-append}
use Rattle.std.proofs.lemmas.Iterator.Adapters.{YieldsList-from_vec}
use Rattle.std.proofs.lemmas.Iterator.Consumers.{YieldsList-end}
use Rattle.std.proofs.lemmas.Map.Entries.{length-values_of}
use Rattle.row_map.specs.Database.{IsRising, row_len, rows_len}
use Rattle.row_map.specs.Row.{row_view, row_views}
use Rattle.row_map.specs.Ranges.{is_of_type}
use Rattle.row_map.specs.Buckets.{IsBoundedBy}
use Rattle.row_map.specs.TypeCounts.{AreCounted}
use Rattle.row_map.specs.RowMap.{views_of}
use Rattle.row_map.proofs.Lens.{rows_short}
use Rattle.row_map.proofs.Tallied.{one, few_rows}
use Rattle.row_map.proofs.Bucketed.{all_implied}
use Rattle.row_map.proofs.Purged.{last_good}
use Rattle.row_map.proofs.Collected.{views_push, own_push}
use Rattle.row_map.proofs.row_map.map_of.Goals as goal

pub add-requires : goal.add-requires
add-requires c = λ new.
    omega (arith, few_rows c.in-Some.row.kind c.loop-row.entries.items, c.loop-row.invariant.counted c.in-Some.row.kind, c.len-count.ensures)

pub overflow_add-bytes : goal.overflow_add-bytes
overflow_add-bytes c =
    let es = c.loop-row.entries.items in
    omega (arith, rows_short (values_of es), length-values_of es, c.loop-row.invariant.bytes, c.len-count.ensures, c.len-in-loop-row.ensures.short, c.from-bytes.ensures)

pub loop-row-preserved : goal.loop-row-preserved
loop-row-preserved c =
    let es = c.loop-row.entries.items in
    let row = row_view c.in-Some.row in
    let key = c.key_of_row-key.result in
    let more : views_of c.push.new.self.items ≡ views_of es ++ row ∷ [] = ap views_of c.in_ok-push.ensures.items ∙ views_push es key c.in-Some.row in
    record {
      rows = more ∙ ap (λ rows. rows ++ row ∷ []) c.loop-row.invariant.rows ∙ sym (map-append row_view c.loop-row.yielded (c.in-Some.row ∷ []));
      own = rw c.in_ok-push.ensures.items (own_push es key c.in-Some.row c.loop-row.invariant.own c.key_of_row-key.ensures);
      counted = λ kind. omega (arith, ap (count_by (is_of_type kind)) more, sum_by-append (one kind) (views_of es) (row ∷ []), c.loop-row.invariant.counted kind, c.add.ensures kind);
      bounded = rw more
          (last_good (IsBoundedBy c.lower.new.self) (views_of es) row
          (all_implied (IsBoundedBy c.loop-row.bounds) (IsBoundedBy c.lower.new.self) (views_of es) c.lower.ensures.kept c.loop-row.invariant.bounded)
          (c.lower.ensures.put row c.key_of_row-key.ensures (omega (arith, c.expiry.ensures))));
      bytes = omega (arith, ap rows_len more, sum_by-append row_len (views_of es) (row ∷ []), c.loop-row.invariant.bytes, c.from-bytes.ensures, c.len-in-loop-row.ensures.same);
    }

pub tree_of-requires-clause-rising : goal.tree_of-requires-clause-rising
tree_of-requires-clause-rising c =
    let items = c.args.rows.items in
    let all = YieldsList-from_vec {s = c.into_iter-row-iterator.result} items c.into_iter-row-iterator.ensures.into_iter_gives.0 (c.into_iter-row-iterator.ensures.into_iter_gives.1 ∙ c.args.rows.ok.0) in
    let rows = c.loop-row.invariant.rows ∙ ap row_views (sym (map-id c.loop-row.yielded) ∙ (YieldsList-end all c.loop-row.yielded _ c.loop-row.yielded_by _ c.next.new.self c.in-None.is c.next.ensures.steps).0) in
    subst IsRising (sym rows) c.requires
