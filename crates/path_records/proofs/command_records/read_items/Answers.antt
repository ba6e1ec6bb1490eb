use Rattle.std.proofs.Common.{rules, arith, ◌≡◌, ◌+◌, ◌-◌, ◌<◌, [], ◌∷◌, ◌++◌, length, Err}
use Rattle.path_records.specs.declared.error.DbError.{DbError}
use Rattle.path_records.specs.RowRecord.{row_decoding, HasOutline}
use Rattle.path_records.specs.CommandRecord.{items_decoding}
use Rattle.path_records.proofs.Records.{item_next, item_refused, items_done, items_left, whole_more, first_or}
use Rattle.path_records.proofs.command_records.read_items.Goals as goal

pub returns-in_err-row-clause-decoding : goal.returns-in_err-row-clause-decoding
returns-in_err-row-clause-decoding c =
    let refused : (e : DbError) → row_decoding c.loop.rest.now ≡ Err e → items_decoding c.args.count c.args.bytes.now ≡ Err e =
    λ e read. item_refused _ c.loop.rows.items e (c.args.count - c.loop.counter) c.loop.rest.now (omega arith) read c.loop.invariant.decoding in
    search (rules, refused)

pub loop-preserved : goal.loop-preserved
loop-preserved c =
    let pushed : c.push.new.self.items ≡ c.loop.rows.items ++ c.in_ok-row.row ∷ [] = c.in_ok-push.ensures.items in
    let next = item_next _ c.loop.rows.items c.in_ok-row.row (c.args.count - c.loop.counter) (c.args.count - (c.loop.counter + 1)) c.loop.rest.now
    (omega arith) c.in_ok-row.ensures.decoding c.loop.invariant.decoding in
    record {
      decoding = rw (pushed, c.in_ok-row.ensures.behind) next;
      whole = rw pushed (whole_more c.loop.rows.items c.in_ok-row.row c.loop.invariant.whole c.in_ok-row.ensures.whole);
      first = λ none. absurd (omega (arith, none));
      outline = λ some. first_or HasOutline c.loop.counter c.loop.rest.now c.args.bytes.now c.loop.invariant.first c.loop.invariant.outline c.in_ok-row.ensures.outline;
    }

pub returns-then-not-is_empty-clause-decoding : goal.returns-then-not-is_empty-clause-decoding
returns-then-not-is_empty-clause-decoding c =
    let some : 0 < length c.loop.rest.now = search rules in
    λ _. items_left _ c.loop.rows.items (c.args.count - c.loop.counter) c.loop.rest.now (omega arith) some c.loop.invariant.decoding

pub returns-clause-decoding : goal.returns-clause-decoding
returns-clause-decoding c =
    let none : length c.loop.rest.now ≡ 0 = search rules in
    items_done _ c.loop.rows.items (c.args.count - c.loop.counter) c.loop.rest.now (omega arith) none c.loop.invariant.decoding
