-- The digest of a path, which is the id of its segment.
use Rattle.std.specs.Prelude.{ℕ, List, ◌++◌}
use Rattle.std.specs.List.{flat_map}
use Rattle.std.specs.Int.{w16, w64, to_be_bytes}
use Rattle.sha2.specs.Sha256.{sha256}
use Rattle.seg_core.specs.SegmentView.{EntryView, SegmentView}

-- The 12 bytes of one hop: ISD-AS (8), ingress (2) and egress (2), big-endian.
abbrev pub hop_bytes : EntryView → List ℕ
hop_bytes e = to_be_bytes w64 e.ia ++ (to_be_bytes w16 e.ingress ++ to_be_bytes w16 e.egress)

-- The 32 bytes of the SHA-256 digest of the hops in order.
unfoldable pub segment_digest : SegmentView → List ℕ
segment_digest s = sha256 (flat_map hop_bytes s.entries)
