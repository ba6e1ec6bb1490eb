use Rattle.std.proofs.Common.{ℕ, List, ◌++◌, Option}
use Rattle.seg_core.specs.SegmentView.{EntryView}
use Rattle.row_map.specs.Database.{RowView}
use Rattle.row_map.specs.EndKeys.{IsRowIndex}
use Rattle.row_map.proofs.Appended.{IsIndexWith}
use Rattle.row_map.proofs.end_keys.index_with.Given as goal

abbrev pub invariant-loop-index_row : goal.invariant-loop-index_row
invariant-loop-index_row l = (end : List EntryView → Option ℕ) (rows : List RowView) → IsRowIndex end rows l.fn.index_rows.items → IsIndexWith end rows (l.others.items ++ l.left.items) l.index

abbrev pub invariant-loop-other : goal.invariant-loop-other
invariant-loop-other l = (end : List EntryView → Option ℕ) (rows : List RowView) → IsRowIndex end rows l.fn.index_rows.items → IsIndexWith end rows l.others.items l.index

abbrev pub decreases-loop-index_row : goal.decreases-loop-index_row
decreases-loop-index_row l = l.left.len

abbrev pub decreases-loop-other : goal.decreases-loop-other
decreases-loop-other l = l.others.len
