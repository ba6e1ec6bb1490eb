use Rattle.std.proofs.Common.{◌≡◌, ◌+◌, length, drop}
use Rattle.seg_core.specs.declared.seg_type.SegType.TheVariants.{Up, Down, Core}
use Rattle.seg_core.specs.Encoding.{segments_encoding, of_type, referred_rows}
use Rattle.seg_core.proofs.response.type_lens.Given as goal

abbrev pub invariant-loop-kind : goal.invariant-loop-kind
invariant-loop-kind l =
    (l.lens.up + length (segments_encoding (of_type Up (referred_rows (drop l.kind-index l.segments)))) ≡ length (segments_encoding (of_type Up (referred_rows l.segments))))
    × (l.lens.down + length (segments_encoding (of_type Down (referred_rows (drop l.kind-index l.segments)))) ≡ length (segments_encoding (of_type Down (referred_rows l.segments))))
    × (l.lens.core + length (segments_encoding (of_type Core (referred_rows (drop l.kind-index l.segments)))) ≡ length (segments_encoding (of_type Core (referred_rows l.segments))))
