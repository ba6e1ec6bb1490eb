use Rattle.std.proofs.Common.{◌≡◌, take}
use Rattle.std.specs.Arc.{arc_value}
use Rattle.seg_core.specs.EntryView.{entry_views, marked_views}
use Rattle.seg_core.proofs.segment.entries_in.Given as goal

abbrev pub invariant-loop-entry : goal.invariant-loop-entry
invariant-loop-entry l = entry_views l.entries.items ≡ marked_views (arc_value l.encoding).items (take l.entry-index l.fn.marked.items)
