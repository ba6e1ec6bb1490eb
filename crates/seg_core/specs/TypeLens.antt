-- The lengths of a response's segments, by their types.
use Rattle.std.specs.Prelude.{◌≡◌, List, length}
use Rattle.seg_core.specs.declared.seg_type.SegType.{SegType}
use Rattle.seg_core.specs.declared.seg_type.SegType.TheVariants.{Up, Down, Core}
use Rattle.seg_core.specs.declared.response.TypeLens.{TypeLens}
use Rattle.seg_core.specs.SegmentView.{SegmentView}
use Rattle.seg_core.specs.Encoding.{segments_encoding, of_type}

-- the segments of each type have this number of bytes, each with its tag and its length prefix
pub record AreTypeLens (rows : List (SegType × SegmentView)) (lens : TypeLens) : Type 0 where
  pub up : lens.up ≡ length (segments_encoding (of_type Up rows))
  pub down : lens.down ≡ length (segments_encoding (of_type Down rows))
  pub core : lens.core ≡ length (segments_encoding (of_type Core rows))
