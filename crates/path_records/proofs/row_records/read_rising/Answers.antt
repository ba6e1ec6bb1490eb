use Rattle.std.proofs.Common.{rules, ◌≡◌, ◌<◌, true, false, [], ◌∷◌, ◌++◌, length, Err, ap, ◌∙◌}
use Rattle.std.proofs.lemmas.List.{map-append}
use Rattle.seg_core.specs.Message.{last_of}
use Rattle.path_records.specs.declared.error.DbError.{DbError}
use Rattle.row_map.specs.Database.{RowView}
use Rattle.row_map.specs.Row.{row_view, row_views}
use Rattle.path_records.specs.RowRecord.{row_decoding, rows_decoding, is_row_above}
use Rattle.path_records.proofs.Records.{whole_more}
use Rattle.path_records.proofs.RowsRead.{rows_begun, row_next, row_refused, row_falls, rows_done}
use Rattle.path_records.proofs.row_records.read_rising.Goals as goal

pub loop-rest-init : goal.loop-rest-init
loop-rest-init c = record {
  decoding = rw c.new-rows.ensures.items (rows_begun c.args.bytes.now);
  whole = search rules;
  first = search rules;
}

pub returns-in_err-kind-clause-decoding : goal.returns-in_err-kind-clause-decoding
returns-in_err-kind-clause-decoding c =
    let some : 0 < length c.loop-rest.rest.now = search rules in
    let refused : (e : DbError) → row_decoding c.loop-rest.rest.now ≡ Err e → rows_decoding c.args.bytes.now ≡ Err e =
    λ e read. row_refused _ (row_views c.loop-rest.rows.items) e c.loop-rest.rest.now some read c.loop-rest.invariant.decoding in
    search (rules, refused)

pub returns-then-not-is_above_last-clause-decoding : goal.returns-then-not-is_above_last-clause-decoding
returns-then-not-is_above_last-clause-decoding c =
    let some : 0 < length c.loop-rest.rest.now = search rules in
    let falls : is_row_above (last_of (row_views c.loop-rest.rows.items)) (c.in_ok-kind.kind, c.in_ok-kind.segment) ≡ false = search rules in
    λ _. row_falls _ (row_views c.loop-rest.rows.items) (c.in_ok-kind.kind, c.in_ok-kind.segment) c.loop-rest.rest.now some c.in_ok-kind.ensures.decoding falls c.loop-rest.invariant.decoding

pub loop-rest-preserved : goal.loop-rest-preserved
loop-rest-preserved c =
    let some : 0 < length c.loop-rest.rest.now = search rules in
    let row : RowView = (c.in_ok-kind.kind, c.in_ok-kind.segment) in
    let above : is_row_above (last_of (row_views c.loop-rest.rows.items)) row ≡ true = search rules in
    let pushed : row_views c.push.new.self.items ≡ row_views c.loop-rest.rows.items ++ row ∷ [] =
    ap row_views c.in_ok-push.ensures.items ∙ map-append row_view c.loop-rest.rows.items (c.new-row.result ∷ [])
    ∙ ap (λ (r : RowView). row_views c.loop-rest.rows.items ++ r ∷ []) c.new-row.ensures in
    let next = row_next _ (row_views c.loop-rest.rows.items) row c.loop-rest.rest.now some c.in_ok-kind.ensures.decoding above c.loop-rest.invariant.decoding in
    record {
      decoding = rw (pushed, c.in_ok-kind.ensures.behind) next;
      whole = rw pushed (whole_more (row_views c.loop-rest.rows.items) row c.loop-rest.invariant.whole c.in_ok-kind.ensures.whole);
      first = search rules;
    }

pub returns-clause-decoding : goal.returns-clause-decoding
returns-clause-decoding c =
    let none : length c.loop-rest.rest.now ≡ 0 = search rules in
    rows_done _ (row_views c.loop-rest.rows.items) c.loop-rest.rest.now none c.loop-rest.invariant.decoding
