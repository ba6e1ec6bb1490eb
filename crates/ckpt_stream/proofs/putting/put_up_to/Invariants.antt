use Rattle.std.proofs.Common.{ℕ, ◌-◌, length, Bool, List}
use Rattle.row_map.specs.Database.{RowView}
use Rattle.row_map.specs.Row.{row_view}
use Rattle.ckpt_stream.specs.Planning.{IsBeforeRowEdit}
use Rattle.ckpt_stream.proofs.putting.put_up_to.Given as goal

-- The edits are those before the row has one, with a key more each time.
abbrev pub invariant-loop-at : goal.invariant-loop-at
invariant-loop-at l =
    (p : RowView → Bool) (seen : List RowView) (kept : ℕ) (olds : List RowView)
    → IsBeforeRowEdit (row_view l.row) l.keys p seen l.fn.at l.fn.edits.items kept olds → IsBeforeRowEdit (row_view l.row) l.keys p seen l.at l.edits.items kept olds

abbrev pub decreases-loop-at : goal.decreases-loop-at
decreases-loop-at l = length l.keys - l.at
