-- All rows.
use Rattle.std.proofs.Common.{◌≤◌, ◌∙◌, List, length, ap, subst, arith}
use Rattle.std.proofs.lemmas.List.{take_all}
use Rattle.path_db.specs.declared.command.Command.{Command}
use Rattle.path_db.specs.Command.{database_after_all}
use Rattle.ckpt_stream.specs.Planner.{HasSeen}
use Rattle.ckpt_stream.proofs.OldRows.{rows_sized}
use Rattle.ckpt_stream.proofs.old_rows.settle_rows.Goals as goal

pub returns-clause-after : goal.returns-clause-after
returns-clause-after c = c.rows_after-after.ensures ∙ ap (database_after_all c.see_rows.new.note.value) c.deref.ensures.value

pub returns-clause-settled : goal.returns-clause-settled
returns-clause-settled c =
    let rows = c.args.rows in
    let read = c.requires.read in
    let inside : c.args.rows.front.size ≤ length c.requires.read.pushed = omega (arith, read.long, c.requires.all) in
    let streamed = c.in_ok-see_rows.ensures.streamed rows.front.size rows.front.count read.pushed read.streamed in
    let seen = c.in_ok-see_rows.ensures.seen rows.journal.commands.items
    (subst (λ (l : List Command). HasSeen l rows.note.value rows.planner) (take_all rows.named rows.journal.commands.items c.requires.named) read.seen) in
    record {
      commands = rows.journal.commands.items;
      settles = c.in_ok-settling.ensures.settles c.see_rows.new.note.value seen streamed.cursor.database;
      all = record {
        after = c.rows_after-after.ensures ∙ ap (database_after_all c.see_rows.new.note.value) c.deref.ensures.value;
        database = streamed.cursor.database;
        size = rows_sized read.pushed c.see_rows.new.note.value rows.front.size rows.front.count inside
            (c.in_ok-see_rows.ensures.all rows.front.size rows.front.count read.pushed read.streamed inside);
        summed = read.summed ∙ c.requires.all;
      };
    }
