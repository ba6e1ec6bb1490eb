-- How far the rows of a stream are seen.
use Rattle.std.proofs.Common.{ℕ, List}
use Rattle.path_db.specs.declared.command.Command.{Command}
use Rattle.ckpt_pair.specs.Stream.{HasStreamed}
use Rattle.ckpt_stream.specs.Planner.{HasSeen}
use Rattle.ckpt_stream.proofs.old_rows.see_rows.Given as goal

-- The rows that the stream gave are noted and planned.
abbrev pub invariant-rows : goal.invariant-rows
invariant-rows l = record {
  seen : (commands : List Command) → HasSeen commands l.fn.note.value l.fn.planner → HasSeen commands l.note.value l.planner;
  streamed : (size count : ℕ) (pushed : List ℕ) → HasStreamed size count pushed l.fn.note.value l.fn.stream → HasStreamed size count pushed l.note.value l.stream;
}

abbrev pub decreases-rows : goal.decreases-rows
decreases-rows l = l.stream.rows
