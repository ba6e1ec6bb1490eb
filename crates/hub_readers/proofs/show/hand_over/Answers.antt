use Rattle.std.proofs.Common.{◌≡◌, ℕ, ◌+◌, [], ◌∷◌, ◌++◌, ◌∙◌, ap, sym, take, drop, get_or, rules}
use Rattle.left_right.specs.Sides.{view}
use Rattle.store_layout.specs.Journal.{all_of}
use Rattle.path_db.specs.declared.command.Command.{Command}
use Rattle.log_history.specs.Entries.{log_accepting}
use Rattle.hub_readers.specs.declared.published.ShownCommand.{ShownCommand}
use Rattle.hub_readers.specs.Shown.{shown_log}
use Rattle.hub_readers.proofs.Handing.{noted_now, noted_already, handed_more}
use Rattle.hub_readers.proofs.show.hand_over.Goals.{then-index-noted, else-index-noted}
use Rattle.hub_readers.proofs.show.hand_over.Goals as goal

-- one more command is noted, if it is not yet, and passed to the writer
pub loop-index-preserved : goal.loop-index-preserved
loop-index-preserved g c =
    let book = g.N.ReaderName.shown in
    let before = all_of (view c.args.writer.now.desk.place).groups in
    let group = c.args.group.now in
    let at = c.loop-index.index in
    let command = c.in-Ok.command in
    let was = c.loop-index.invariant.handed in
    let below = c.loop-index-test.true in
    let is : command ≡ get_or group at command = search rules in
    let noted : (c.if-index-noted.history ≡ shown_log book (before ++ take (at + 1) group)) × (c.if-index-noted.noted ≡ at + 1) =
    elim c.if-index-noted.branch [
      | then-index-noted w ↦ (
        w.history-is ∙ w.accept.ensures ∙ ap (λ (x : Command). log_accepting x c.loop-index.history) w.of.ensures ∙ noted_now book before group c.loop-index.history _ _ command was w.if-index-noted.true below is,
        w.noted-is ∙ ap (λ (n : ℕ). n + 1) (sym w.if-index-noted.true),
      )
      | else-index-noted w ↦ (
        w.history-is ∙ (noted_already book before group c.loop-index.history _ _ was w.if-index-noted.false).0,
        w.noted-is ∙ (noted_already book before group c.loop-index.history _ _ was w.if-index-noted.false).1,
      )
    ] in
    let queue = drop c.loop-index.writer.behind c.loop-index.writer.log.items in
    let next : ShownCommand = record { command = command; past = c.if-index-noted.history } in
    let grown : drop c.append.new.self.behind c.append.new.self.log.items ≡ queue ++ next ∷ [] = search rules in
    record {
      desk = c.append.ensures.desk ∙ c.loop-index.invariant.desk;
      handed = handed_more book before group c.if-index-noted.history _ _ at c.if-index-noted.noted command noted.0 noted.1 below is was.pending grown;
    }
