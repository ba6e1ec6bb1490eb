-- The rows of a type, and those after an id.
use Rattle.std.specs.Prelude.{ℕ, List, Bool, ◌==◌}
use Rattle.std.specs.Ordering.{nat_cmp, is_lt}
use Rattle.std.specs.Cmp.Lexicographic.{slice_cmp}
use Rattle.seg_core.specs.declared.seg_type.SegType.{SegType}
use Rattle.seg_core.specs.Registration.{type_number}
use Rattle.row_map.specs.Database.{RowView, key, key_of}

-- A row is of this type.
abbrev pub is_of_type : SegType → RowView → Bool
is_of_type kind row = type_number row.0 == type_number kind

-- A row's key is above that of this type and this id.
abbrev pub is_after : SegType → List ℕ → RowView → Bool
is_after kind id row = is_lt (slice_cmp nat_cmp (key kind id) (key_of row))
