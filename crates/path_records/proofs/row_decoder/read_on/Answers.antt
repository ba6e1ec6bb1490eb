use Rattle.std.proofs.Common.{rules, arith, ◌≡◌, true, false, ◌∷◌, [], ◌++◌, sym, ap, subst, ◌∙◌}
use Rattle.std.proofs.lemmas.List.{map-append}
use Rattle.std.proofs.lemmas.Result.{err_from_is_err_and}
use Rattle.byte_lists.specs.Content.{AreBytes}
use Rattle.seg_core.specs.Message.{last_of}
use Rattle.row_map.specs.Database.{RowView}
use Rattle.row_map.specs.Row.{row_view, row_views}
use Rattle.path_records.specs.RowRecord.{has_row, row_size, is_row_above}
use Rattle.path_records.proofs.Spelled.{bytes_drop, has_room}
use Rattle.path_records.proofs.RowPieces.{database_more, encoded_more, refused_on, falls_on, left_more}
use Rattle.path_records.proofs.row_decoder.read_on.Goals as goal

pub returns-in_err-kind-clause-refused : goal.returns-in_err-kind-clause-refused
returns-in_err-kind-clause-refused c =
    let p = err_from_is_err_and c.from_residual.result c.from_residual.ensures.1 in
    let there : has_row c.loop-alloc.left.now ≡ true = search rules in
    let refused = refused_on (row_views c.loop-alloc.rows.items) c.loop-alloc.left.now _ c.loop-alloc.invariant.database c.loop-alloc.invariant.same there in
    rw (p.1, p.2) (λ other. refused c.in_err-kind.field-0.0 (c.in_err-kind.ensures.decoding other))

pub returns-then-not-is_above_last-clause-refused :
    goal.returns-then-not-is_above_last-clause-refused
returns-then-not-is_above_last-clause-refused c =
    let there : has_row c.loop-alloc.left.now ≡ true = search rules in
    let row : RowView = (c.in_ok-kind.kind, c.in_ok-kind.segment) in
    let falls : is_row_above (last_of (row_views c.loop-alloc.rows.items)) row ≡ false = search rules in
    λ _. falls_on (row_views c.loop-alloc.rows.items) c.loop-alloc.left.now _ c.loop-alloc.invariant.database c.loop-alloc.invariant.same there row c.in_ok-kind.ensures.decoding falls

pub loop-alloc-preserved : goal.loop-alloc-preserved
loop-alloc-preserved c =
    let rows = row_views c.loop-alloc.rows.items in
    let left = c.loop-alloc.left.now in
    let row : RowView = (c.in_ok-kind.kind, c.in_ok-kind.segment) in
    let there : has_row left ≡ true = search rules in
    let above : is_row_above (last_of rows) row ≡ true = search rules in
    let each : AreBytes left = subst AreBytes (sym c.loop-alloc.invariant.behind) (bytes_drop _ c.args.bytes.now (λ i. omega (arith, c.type_inv.bytes i))) in
    let pushed : row_views c.push.new.self.items ≡ rows ++ row ∷ [] =
    ap row_views c.in_ok-push.ensures.items ∙ map-append row_view c.loop-alloc.rows.items (c.new-row.result ∷ [])
    ∙ ap (λ (r : RowView). rows ++ r ∷ []) c.new-row.ensures in
    let more = left_more c.args.bytes.now left (row_size left) c.loop-alloc.invariant.behind (has_room left there) c.loop-alloc.invariant.within in
    record {
      database = rw pushed (database_more rows row c.loop-alloc.invariant.database c.in_ok-kind.ensures.whole above);
      same = rw (pushed, c.in_ok-kind.ensures.behind) (encoded_more rows row left each c.in_ok-kind.ensures.decoding ∙ c.loop-alloc.invariant.same);
      within = search rules;
      behind = rw c.in_ok-kind.ensures.behind more;
    }
