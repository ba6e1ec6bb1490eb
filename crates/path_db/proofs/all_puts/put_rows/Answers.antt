use Rattle.std.proofs.Common.{rules, [], ◌∷◌, ◌++◌, drop, length, sym, ap, ◌∙◌}
use Rattle.std.proofs.lemmas.List.{map-append, map-id, take-append-drop}
use Rattle.std.proofs.lemmas.Iterator.Adapters.{YieldsList-from_vec}
use Rattle.std.proofs.lemmas.Iterator.Consumers.{YieldsList-so_far}
use Rattle.row_map.specs.Put.{database_after_put, database_after_puts, change_of, changes_of}
use Rattle.row_map.specs.Row.{row_view, row_views}
use Rattle.path_db.specs.Outcome.{outcome_of_puts, outcome_after}
use Rattle.row_map.specs.Saved.{AreFirstPut}
use Rattle.path_db.proofs.Steps.{nothing_after, rows_after_more, none_counted, changes_more, outcome_more}
use Rattle.path_db.proofs.all_puts.put_rows.Goals as goal

pub loop-row-init : goal.loop-row-init
loop-row-init c = record {
  counted = c.requires;
  put = nothing_after _;
  told = c.nothing-outcome.ensures ∙ none_counted c.args.rows.now;
}

-- the rows before this one were put
pub returns-in_err-put_row-clause-some : goal.returns-in_err-put_row-clause-some
returns-in_err-put_row-clause-some c =
    let all = YieldsList-from_vec {s = c.into_iter-row-iterator.result} c.args.new.items c.into_iter-row-iterator.ensures.into_iter_gives.0 (c.into_iter-row-iterator.ensures.into_iter_gives.1 ∙ c.args.new.ok.0) in
    let taken = sym (map-id c.loop-row.yielded) ∙ YieldsList-so_far all c.loop-row.yielded c.loop-row.row-iterator c.loop-row.yielded_by in
    let n = length c.loop-row.yielded in
    let some : AreFirstPut c.args.rows.now (row_views c.args.new.items) c.put_row.new.rows = record {
      part = row_views c.loop-row.yielded;
      rest = row_views (drop n c.args.new.items);
      parts =
          ap row_views (sym (take-append-drop n c.args.new.items) ∙ ap (λ l. l ++ drop n c.args.new.items) (sym taken))
          ∙ map-append row_view c.loop-row.yielded (drop n c.args.new.items);
      put = c.in_err-put_row.ensures.err ∙ c.loop-row.invariant.put;
    } in
    search (rules, some)

pub loop-row-preserved : goal.loop-row-preserved
loop-row-preserved c =
    let old = c.args.rows.now in
    let new = row_views c.loop-row.yielded in
    let row = row_view c.in-Some.row in
    let more = map-append row_view c.loop-row.yielded (c.in-Some.row ∷ []) in
    record {
      counted = c.in_ok-put_row.ensures.bytes;
      put = c.in_ok-put_row.ensures.rows ∙ ap (λ rows. database_after_put rows row) c.loop-row.invariant.put ∙ sym (ap (database_after_puts old) more ∙ rows_after_more old new row);
      told =
          c.count.ensures
          ∙ ap (λ change. outcome_after change c.loop-row.outcome) c.in_ok-put_row.ensures.change
          ∙ ap (λ rows. outcome_after (change_of rows row) c.loop-row.outcome) c.loop-row.invariant.put
          ∙ ap (outcome_after (change_of (database_after_puts old new) row)) c.loop-row.invariant.told
          ∙ sym (ap (λ l. outcome_of_puts (changes_of old l)) more ∙ ap outcome_of_puts (changes_more old new row) ∙ outcome_more (changes_of old new) (change_of (database_after_puts old new) row));
    }

pub returns-clause-within : goal.returns-clause-within
returns-clause-within c = search rules
