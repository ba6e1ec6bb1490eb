use Rattle.std.proofs.Common.{◌≡◌, ◌+◌, ℕ, List, [], ◌∷◌, length, get_or, ap, ◌∙◌, arith, length-append}
use Rattle.std.specs.Prelude.{Option}
use Rattle.row_map.specs.declared.row.Row.{Row}
use Rattle.ckpt_stream.specs.Edits.{views_if_any, bytes_put, count_rows}
use Rattle.ckpt_stream.proofs.SettledRows.{one_listed, bytes_more, count_more}
use Rattle.ckpt_stream.proofs.settling.Settling.list_next.Goals as goal

pub returns-clause-settles : goal.returns-clause-settles
returns-clause-settles c rows commands was =
    let old = c.args.self.now in
    let row = c.in_ok-row.row in
    let place : c.len.result ≡ length c.args.self.now.rows.items = omega arith in
    let long : length c.push.new.self.items ≡ length c.args.self.now.rows.items + 1 =
    omega (arith, ap length c.in_ok-push.ensures.items, length-append c.args.self.now.rows.items (c.in_ok-row.row ∷ [])) in
    record {
      database = was.database;
      rise = was.rise;
      covers = was.covers;
      purged = was.purged;
      purges = was.purges;
      kept = was.kept;
      counted = was.counted;
      olds = was.olds;
      made = was.made;
      applied = was.applied;
      split = was.split;
      whole = was.whole;
      listed = one_listed old.db c.apply.new.self old.keys.items c.index.result.now old.commands.items old.at old.rows.items c.push.new.self.items row _
          was.rise c.requires.applied c.requires.more (c.index.ensures ∙ ap (λ (n : ℕ). get_or old.keys.items n c.index.result.now) place) c.in_ok-row.ensures c.in_ok-apply.ensures.database
          c.in_ok-push.ensures.items long was.listed;
      size = omega (arith, c.saturating_add-self.ensures, c.record_len.ensures, was.size, ap (λ (l : List (Option Row)). bytes_put (views_if_any l)) c.in_ok-push.ensures.items, bytes_more c.args.self.now.rows.items c.in_ok-row.row);
      count = omega (arith, c.saturating_add-self-2.ensures, c.one_if_any.ensures, was.count, ap (λ (l : List (Option Row)). count_rows (views_if_any l)) c.in_ok-push.ensures.items, count_more c.args.self.now.rows.items c.in_ok-row.row);
    }
