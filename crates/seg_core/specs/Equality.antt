-- Equality of two entries, and of two segments: a test of all their fields, which is true exactly
-- when they are the same.
use Rattle.std.specs.Prelude.{ℕ, List, Bool, ◌==◌, ◌&&◌, nat_eq}
use Rattle.std.specs.Option.{option_eq}
use Rattle.std.specs.Cmp.Lexicographic.{pointwise}
use Rattle.seg_core.specs.SegmentView.{EntryView, SegmentView}

-- Two lists of bytes are the same.
abbrev pub same_bytes : List ℕ → List ℕ → Bool
same_bytes xs ys = pointwise nat_eq xs ys

-- Two entries are the same.
abbrev pub same_entry : EntryView → EntryView → Bool
same_entry a b =
    (a.ia == b.ia && (a.next == b.next && (a.ingress == b.ingress && (a.egress == b.egress && a.exp_time == b.exp_time))))
    && (same_bytes a.signed b.signed && (same_bytes a.signature b.signature && option_eq same_bytes a.unsigned b.unsigned))

-- Two lists of entries are the same.
abbrev pub same_entries : List EntryView → List EntryView → Bool
same_entries es fs = pointwise same_entry es fs

-- Two segments are the same.
abbrev pub same_segment : SegmentView → SegmentView → Bool
same_segment s t = s.timestamp == t.timestamp && (s.segment_id == t.segment_id && (same_bytes s.info t.info && same_entries s.entries t.entries))
