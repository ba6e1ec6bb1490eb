-- The numbers of rows of each type.
use Rattle.std.specs.Prelude.{◌≡◌, ℕ, List, Bool, ◌&&◌, ◌==◌, count_by, if◌then◌else◌}
use Rattle.seg_core.specs.declared.seg_type.SegType.{SegType}
use Rattle.seg_core.specs.declared.seg_type.SegType.TheVariants.{Up, Down, Core}
use Rattle.seg_core.specs.Registration.{type_number}
use Rattle.row_map.specs.declared.type_counts.TypeCounts.{TypeCounts}
use Rattle.row_map.specs.Database.{RowView}
use Rattle.row_map.specs.Ranges.{is_of_type}

-- The count of a type.
abbrev pub count_of : TypeCounts → SegType → ℕ
count_of counts Up = counts.up
count_of counts Core = counts.core
count_of counts Down = counts.down

-- What a row of a type that is counted, if it is, adds to the count of another type.
abbrev pub one_of : Bool → SegType → SegType → ℕ
one_of counted kind other = if counted && (type_number kind == type_number other) then 1 else 0

-- Each count is the number of rows of its type.
abbrev pub AreCounted : TypeCounts → List RowView → Type 0
AreCounted counts rows = (kind : SegType) → count_of counts kind ≡ count_by (is_of_type kind) rows
