-- How an index row is kept.
use Rattle.std.specs.Prelude.{◌≡◌, ℕ, ◌+◌, ◌-◌, ◌/◌, ◌%◌, ◌^◌, List, [], min, take, Some, None}
use Rattle.seg_core.specs.Digest.{segment_digest}
use Rattle.seg_core.specs.Registration.{type_number}
use Rattle.seg_core.specs.SegmentView.{SegmentView}
use Rattle.seg_core.specs.declared.seg_type.SegType.{SegType}
use Rattle.seg_core.specs.declared.seg_type.SegType.TheVariants as kinds
use Rattle.seg_check.specs.Expiry.{expiry_of}
use Rattle.row_map.specs.declared.index_row.Place.{Place}
use Rattle.row_map.specs.declared.index_row.Place.TheVariants.{Below, After, Up, Down, Core}
use Rattle.row_map.specs.IndexKey.{IndexKey}

-- The index key of a row.
abbrev key_of_row : SegType → ℕ → SegmentView → IndexKey
key_of_row kind number segment = record { kind = type_number kind; isd_as = number; id = segment_digest segment; row = Some (kind, segment) }

-- The index key of a place.
abbrev pub key_of_place : Place → IndexKey
key_of_place (Below kind number) = record { kind = type_number kind; isd_as = number; id = []; row = None }
key_of_place (After kind number id) = record { kind = type_number kind; isd_as = number; id = id.value; row = None }
key_of_place (Up head second number segment) = key_of_row kinds.Up number segment
key_of_place (Down head second number segment) = key_of_row kinds.Down number segment
key_of_place (Core head second number segment) = key_of_row kinds.Core number segment

-- The first second since 1970 at which a segment has expired, at most 2^32 - 1.
abbrev pub second_of : SegmentView → ℕ
second_of segment = min (expiry_of segment / 2 + expiry_of segment % 2) (2 ^ 32 - 1)

-- What is kept beside a row's segment: the head has the first bytes of its id, and the second is the
-- one at which it has expired.
abbrev pub IsKept : List ℕ → ℕ → SegmentView → Type 0
IsKept head second segment = (head ≡ take 3 (segment_digest segment)) × (second ≡ second_of segment)

-- A row's place keeps the head and the second of its segment.
abbrev pub HasHead : Place → Type 0
HasHead (Below kind number) = Unit {0}
HasHead (After kind number id) = Unit {0}
HasHead (Up head second number segment) = IsKept head second segment
HasHead (Down head second number segment) = IsKept head second segment
HasHead (Core head second number segment) = IsKept head second segment
