-- Some commands more.
use Rattle.std.proofs.Common.{◌≡◌, ℕ, ◌+◌, ◌-◌, ◌≤◌, List, [], ◌++◌, length, take, drop, sym, ap, ◌∙◌, subst, arith}
use Rattle.std.proofs.lemmas.List.{length-take-le, take-append-drop}
use Rattle.std.proofs.Math.Seq.{take-append-add}
use Rattle.path_db.specs.declared.command.Command.{Command}
use Rattle.row_map.specs.Database.{RowView}
use Rattle.ckpt_stream.specs.Planner.{HasSeen}
use Rattle.ckpt_stream.proofs.old_rows.name_next.Goals as goal

-- the first commands, and those after them up to a place
more_taken : (a b : ℕ) (l : List Command) → a ≤ length l → take a l ++ take b (drop a l) ≡ take (a + b) l
more_taken a b l low = sym (take-append-add (take a l) (drop a l) b) ∙ (λ i. take (length-take-le a l low i + b) (take-append-drop a l i))

pub returns-clause-read : goal.returns-clause-read
returns-clause-read c =
    let rows = c.args.rows.now in
    let read = c.requires.read in
    let fresh = read.fresh c.requires.more in
    let commands = rows.journal.commands.items in
    let end = c.min-end.result in
    let none : HasSeen (take c.args.rows.now.named c.args.rows.now.journal.commands.items) [] c.args.rows.now.planner =
    subst (λ (seen : List RowView). HasSeen (take rows.named commands) seen rows.planner) fresh.1 read.seen in
    let high : c.args.rows.now.named + (c.min-end.result - c.args.rows.now.named) ≡ c.min-end.result =
    omega (arith, c.min-end.ensures, c.saturating_add.ensures, c.len.ensures, c.requires.more) in
    record {
      seen = subst (λ (seen : List RowView). HasSeen (take end commands) seen c.name.new.self) (sym fresh.1)
          (subst (λ (l : List Command). HasSeen l [] c.name.new.self)
          (ap (λ (l : List Command). take rows.named commands ++ take (end - rows.named) (drop rows.named l)) c.deref.ensures.value
          ∙ more_taken rows.named (end - rows.named) commands read.named ∙ ap (λ (n : ℕ). take n commands) high)
          (c.in_ok-name.ensures.seen (take rows.named commands) fresh.0 none));
      named = omega (arith, c.min-end.ensures, c.len.ensures);
      fresh = λ less. (c.in_ok-name.ensures.fresh fresh.0, fresh.1);
      pushed = read.pushed;
      long = read.long;
      streamed = read.streamed;
      summed = read.summed;
      inside = read.inside;
    }
