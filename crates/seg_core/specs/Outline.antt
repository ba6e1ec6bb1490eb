-- The outline of a segment as contracts see it.
use Rattle.pw_wire.specs.Fields.{fields}
use Rattle.seg_core.specs.declared.outline.Outline.{Outline}
use Rattle.seg_core.specs.Message.{bytes_fields}
use Rattle.seg_core.specs.Segment.{SegmentOutline}

-- A segment up to its entries, without its location in memory.
abbrev pub outline_view : Outline → SegmentOutline
outline_view o = record {
  timestamp = o.info.timestamp;
  segment_id = o.info.segment_id;
  info = o.info_bytes.now;
  entries = bytes_fields o.entries.field_number (fields o.entries.rest.now);
}
