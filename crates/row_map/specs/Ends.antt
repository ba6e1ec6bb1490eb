-- The first entry of a segment.
use Rattle.std.specs.Prelude.{List, [], ◌∷◌, Option, Some, None}
use Rattle.seg_core.specs.SegmentView.{EntryView}

-- The first entry of a list.
abbrev pub first_entry_of : List EntryView → Option EntryView
first_entry_of [] = None
first_entry_of (e ∷ es) = Some e
