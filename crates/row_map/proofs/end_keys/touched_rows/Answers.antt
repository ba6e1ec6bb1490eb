use Rattle.std.proofs.Common.{[], ◌∷◌, map, take, ap, ◌∙◌, arith}
use Rattle.std.proofs.lemmas.List.{map-append}
use Rattle.row_map.specs.Row.{row_view, row_views}
use Rattle.row_map.specs.Saved.{saved_view}
use Rattle.row_map.specs.EndKeys.{index_number}
use Rattle.row_map.proofs.IndexKeys.{taken_more, views_more, seen_still, seen_push}
use Rattle.row_map.proofs.end_keys.touched_rows.Goals as goal

pub loop-k-preserved : goal.loop-k-preserved
loop-k-preserved c =
    let end = index_number c.args.by in
    let i = c.loop-k.k in
    let all = c.args.saved.now in
    let old = c.index-saved-k.result in
    let rows = row_views (take i c.args.new.now) in
    let saved = map saved_view (take i all) in
    let more = ap (map saved_view) (taken_more all i old (omega arith) c.index-saved-k.is) ∙ map-append saved_view (take i all) (old ∷ []) in
    let row = c.index-new-k.result in
    record {
      seen = rw (views_more c.args.new.now i row (omega arith) c.index-new-k.is, more)
          (seen_push end c.touch.new.touched.items rows saved (row_view row) (saved_view old) (seen_still end c.loop-k.touched.items c.touch.new.touched.items c.in_ok-touch.ensures.kept rows saved c.loop-k.invariant.seen) c.in_ok-touch.ensures.seen);
      rows = c.in_ok-touch.ensures.rows c.loop-k.invariant.rows;
    }
