-- Reading a path segment.
use Rattle.std.specs.Prelude.{ℕ, List, length, nat_le, ◌^◌, ◌-◌, Result, Ok}
use Rattle.seg_core.specs.declared.error.SegError.{SegError}
use Rattle.seg_core.specs.declared.error.SegError.TheVariants.{Chain, Loop, Entries, TooLarge}
use Rattle.seg_core.specs.declared.info.Info.{Info}
use Rattle.seg_core.specs.declared.format.TheConstants.{MOST_SEGMENT_BYTES}
use Rattle.seg_core.specs.Shapes.{path_segment_shape, segment_information_shape}
use Rattle.seg_core.specs.Steps.{◌>>=◌, must_hold, at_most, each}
use Rattle.seg_core.specs.Message.{message_fields, number_field, bytes_fields, bytes_field_or_empty}
use Rattle.seg_core.specs.SegmentView.{SegmentView}
use Rattle.seg_core.specs.Entry.{as_entry_decoding}
use Rattle.seg_core.specs.WellFormed.{is_entry_count, is_chain, has_no_loop}

-- A segment's information: when the segment was made, in seconds since 1970, and its id.
unfoldable pub info_decoding : List ℕ → Result Info SegError
info_decoding message = do
  fs ← message_fields segment_information_shape message
  timestamp ← at_most (2 ^ 32 - 1) (number_field 1 fs)
  segment_id ← at_most (2 ^ 16 - 1) (number_field 2 fs)
  Ok (record { timestamp = timestamp; segment_id = segment_id })

-- A segment whose entries are not read yet.
pub record SegmentOutline : Type 0 where
  -- When the segment was made, in seconds since 1970.
  pub timestamp : ℕ
  -- The id that the beaconing AS has chosen.
  pub segment_id : ℕ
  -- The segment's information as received.
  pub info : List ℕ
  -- The messages of the entries.
  pub entries : List (List ℕ)

-- A segment up to its entries: its size, its wire format and the kinds of its fields, how many
-- entries there are, and its information. These are checked without taking memory.
unfoldable pub segment_outline : List ℕ → Result SegmentOutline SegError
segment_outline message = do
  _ ← must_hold (nat_le (length message) MOST_SEGMENT_BYTES) TooLarge
  fs ← message_fields path_segment_shape message
  _ ← must_hold (is_entry_count (length (bytes_fields 2 fs))) Entries
  info ← info_decoding (bytes_field_or_empty 1 fs)
  Ok (record { timestamp = info.timestamp; segment_id = info.segment_id; info = bytes_field_or_empty 1 fs; entries = bytes_fields 2 fs })

-- A segment: its outline, then its entries in order, which are a chain without a loop.
unfoldable pub segment_decoding : List ℕ → Result SegmentView SegError
segment_decoding message = do
  outline ← segment_outline message
  entries ← each as_entry_decoding outline.entries
  _ ← must_hold (is_chain entries) Chain
  _ ← must_hold (has_no_loop entries) Loop
  Ok (record { timestamp = outline.timestamp; segment_id = outline.segment_id; info = outline.info; entries = entries })
