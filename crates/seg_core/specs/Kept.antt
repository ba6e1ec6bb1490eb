-- What a segment keeps: its encoding, which contains all pieces that came with the message.
use Rattle.std.specs.Prelude.{◌≡◌}
use Rattle.std.specs.Arc.{arc_value}
use Rattle.seg_core.specs.declared.segment.Parts.{Parts}
use Rattle.seg_core.specs.Pieces.{IsSpanWithin}
use Rattle.seg_core.specs.EntryView.{segment_view}
use Rattle.seg_core.specs.Digest.{segment_digest}
use Rattle.seg_core.specs.Encoding.{segment_encoding, IsSegment}

-- What holds of the parts that a segment keeps.
pub record IsKept (parts : Parts) : Type 0 where
  -- They are those of a whole segment.
  pub whole : IsSegment (segment_view parts)
  -- The bytes are the segment's one encoding.
  pub encoded : (arc_value parts.encoding).items ≡ segment_encoding (segment_view parts)
  -- The information is a part of these bytes.
  pub info : IsSpanWithin (arc_value parts.encoding).items parts.info
  -- The digest is the segment's.
  pub digest : parts.digest ≡ segment_digest (segment_view parts)
