-- Index keys in an index, and their order.
use Rattle.std.specs.Prelude.{◌≡◌, ◌⊎◌, ℕ, List, Bool, true, Option, Some, None, nat_lt, nat_le, ◌==◌, ◌&&◌}
use Rattle.std.specs.List.{AllByRecursion, list_any}
use Rattle.std.specs.Ordering.{nat_cmp, is_eq, is_lt, ordering_then}
use Rattle.std.specs.Cmp.Lexicographic.{slice_cmp}
use Rattle.std.specs.declared.cmp.Ordering.{Ordering}
use Rattle.seg_core.specs.declared.seg_type.SegType.{SegType}
use Rattle.seg_core.specs.SegmentView.{SegmentView}

-- An index key: the number of a type, the number by which an index has a row, and the row's id, with
-- the row. A bound of a range has no row.
pub record IndexKey : Type 0 where
  pub kind : ℕ
  pub isd_as : ℕ
  pub id : List ℕ
  pub row : Option (SegType × SegmentView)

-- The order of index keys: by type, then by ISD-AS, then by the bytes of the id.
abbrev pub index_key_cmp : IndexKey → IndexKey → Ordering
index_key_cmp p q = ordering_then (nat_cmp p.kind q.kind) (ordering_then (nat_cmp p.isd_as q.isd_as) (slice_cmp nat_cmp p.id q.id))

-- Two index keys are the same.
abbrev pub is_same : IndexKey → IndexKey → Bool
is_same p q = is_eq (index_key_cmp p q)

-- An index key is in this list.
abbrev pub has : List IndexKey → IndexKey → Bool
has index_keys q = list_any (is_same q) index_keys

-- Each index key of a list is a known one, or has the row that is given for it.
abbrev pub AreKnown : (IndexKey → Bool) → (IndexKey → Option (SegType × SegmentView)) → List IndexKey → Type 0
AreKnown known row index_keys = AllByRecursion (λ q. (known q ≡ true) ⊎ (q.row ≡ row q)) index_keys

-- An index key is of this type and of this ISD-AS.
abbrev pub stands_at : ℕ → ℕ → IndexKey → Bool
stands_at kind isd_as index_key = index_key.kind == kind && index_key.isd_as == isd_as

-- An index key is of this type, and its ISD-AS is at least `low` and below `high`.
abbrev pub stands_between : ℕ → ℕ → ℕ → IndexKey → Bool
stands_between kind low high index_key = index_key.kind == kind && (nat_le low index_key.isd_as && nat_lt index_key.isd_as high)

-- An index key's id is above this one.
abbrev pub is_after_id : List ℕ → IndexKey → Bool
is_after_id id index_key = is_lt (slice_cmp nat_cmp id index_key.id)
