-- The database: a finite map from keys to rows, as the list of its rows in the order of their keys.
use Rattle.std.specs.Prelude.{◌≡◌, ℕ, ◌+◌, List, [], ◌∷◌, length, Bool, if◌then◌else◌, Option, Some, None}
use Rattle.std.specs.List.{AllByRecursion, sum_by}
use Rattle.std.specs.Ordering.{nat_cmp, is_eq}
use Rattle.std.specs.Cmp.Lexicographic.{slice_cmp}
use Rattle.std.specs.declared.cmp.Ordering.{Ordering}
use Rattle.std.specs.declared.cmp.Ordering.TheVariants.{Less}
use Rattle.seg_core.specs.declared.seg_type.SegType.{SegType}
use Rattle.seg_core.specs.SegmentView.{SegmentView}
use Rattle.seg_core.specs.Registration.{type_number}
use Rattle.seg_core.specs.Encoding.{IsSegment, segment_encoding}
use Rattle.seg_core.specs.Digest.{segment_digest}

-- A row as contracts see it: a type and a segment.
abbrev pub RowView : Type 0
RowView = SegType × SegmentView

-- The key of a type and an id: the type's number, then the id's bytes. Keys are in the order of
-- their bytes.
abbrev pub key : SegType → List ℕ → List ℕ
key kind id = type_number kind ∷ id

-- The key of a row.
unfoldable pub key_of : RowView → List ℕ
key_of row = key row.0 (segment_digest row.1)

-- The order of two rows' keys.
abbrev pub key_order : RowView → RowView → Ordering
key_order row other = slice_cmp nat_cmp (key_of row) (key_of other)

-- The keys of the rows rise, so that no key occurs twice.
abbrev pub IsRising : List RowView → Type 0
IsRising [] = Unit {0}
IsRising (row ∷ rows) = AllByRecursion (λ later. key_order row later ≡ Less) rows × IsRising rows

-- The segments of the rows are whole.
abbrev pub AreWhole : List RowView → Type 0
AreWhole rows = AllByRecursion (λ row. IsSegment row.1) rows

-- What holds for every database.
pub record IsDatabase (rows : List RowView) : Type 0 where
  pub rising : IsRising rows
  pub whole : AreWhole rows

-- A row is under this key.
abbrev pub is_under : List ℕ → RowView → Bool
is_under k row = is_eq (slice_cmp nat_cmp k (key_of row))

-- The row under a key, where there is one.
abbrev pub row_under : List ℕ → List RowView → Option RowView
row_under k [] = None
row_under k (row ∷ rows) = if is_under k row then Some row else row_under k rows

-- The number of bytes of a row's record: the type (1), the length (4), and the segment's encoding.
abbrev pub row_len : RowView → ℕ
row_len row = 5 + length (segment_encoding row.1)

-- The number of bytes of the records of all rows.
abbrev pub rows_len : List RowView → ℕ
rows_len rows = sum_by row_len rows
