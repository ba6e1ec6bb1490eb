use Rattle.std.proofs.Common.{◌≡◌, ◌+◌, ◌<◌, List, [], ◌∷◌, ◌++◌, length, get_or, sym, ap, ◌∙◌, subst, arith}
use Rattle.std.specs.Prelude.{map}
use Rattle.std.proofs.lemmas.List.{drop-set-lt}
use Rattle.path_db.specs.declared.command.Command.{Command}
use Rattle.row_map.specs.Database.{RowView, row_under}
use Rattle.path_db.specs.Command.{database_after, database_after_all, HasWholeSegments}
use Rattle.ckpt_stream.specs.Edits.{views_if_any}
use Rattle.ckpt_stream.specs.Planning.{keys_left}
use Rattle.ckpt_stream.proofs.LeftRows.{folded}
use Rattle.ckpt_stream.proofs.SettledRows.{split_more, all_and_one}
use Rattle.ckpt_stream.proofs.settling.Settling.apply_next.Goals as goal

pub returns-clause-settles : goal.returns-clause-settles
returns-clause-settles c rows commands was =
    let old = c.args.self.now in
    let command = c.replace-command.result in
    let views = views_if_any old.rows.items in
    let keys = keys_left old.keys.items (length old.rows.items) in
    let first = subst (λ (x : Command). x ≡ get_or old.commands.items old.at x) (sym c.replace-command.ensures.value) c.index_mut.ensures.value in
    let behind : c.args.self.now.at < c.args.self.now.at + 1 = omega arith in
    let after = drop-set-lt (old.at + 1) old.commands.items old.at c.replace-command.new.dest behind in
    record {
      database = was.database;
      rise = was.rise;
      covers = was.covers;
      purged = was.purged;
      purges = was.purges;
      kept = was.kept;
      counted = was.counted;
      olds = was.olds;
      made = was.made;
      applied = was.applied ++ command ∷ [];
      split = split_more commands was.applied old.commands.items _ old.at command c.requires first after was.split;
      whole = all_and_one HasWholeSegments was.applied command was.whole c.command_is_whole.ensures;
      listed = ap (λ (l : List Command). views ++ map (λ k. row_under k (database_after_all c.apply.new.self l)) keys) after
          ∙ ap (λ (l : List RowView). views ++ map (λ k. row_under k l) keys)
          (folded old.db c.apply.new.self old.commands.items old.at command c.requires (c.in_ok-apply.ensures.database ∙ ap (database_after old.db) first))
          ∙ was.listed;
      size = was.size;
      count = was.count;
    }
