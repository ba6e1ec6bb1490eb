-- A path segment as contracts see it: the numbers in its bytes, and the pieces that are kept
-- unchanged.
use Rattle.std.specs.Prelude.{ℕ, List, Option}

-- The pieces of an entry that are kept unchanged.
pub record PiecesView : Type 0 where
  -- The header and the body, which the AS has signed.
  pub signed : List ℕ
  -- The signature.
  pub signature : List ℕ
  -- The extensions that are not signed, where the entry has any.
  pub unsigned : Option (List ℕ)

-- The entry of one AS. An ISD-AS is a number of 64 bits.
pub record EntryView : Type 0 where
  -- The ISD-AS of the entry.
  pub ia : ℕ
  -- The ISD-AS of the next entry, 0 in the last entry.
  pub next : ℕ
  -- The interface by which the segment enters the AS, 0 in the first entry.
  pub ingress : ℕ
  -- The interface by which the segment leaves the AS, 0 in the last entry.
  pub egress : ℕ
  -- How long the hop field is valid: `exp_time + 1` times 337.5 seconds.
  pub exp_time : ℕ
  -- The pieces that are kept unchanged, as in `PiecesView`.
  pub signed : List ℕ
  pub signature : List ℕ
  pub unsigned : Option (List ℕ)

-- A path segment.
pub record SegmentView : Type 0 where
  -- When the segment was made, in seconds since 1970.
  pub timestamp : ℕ
  -- The id that the beaconing AS has chosen.
  pub segment_id : ℕ
  -- The segment's information as received.
  pub info : List ℕ
  -- The entries, in the direction in which the segment was built.
  pub entries : List EntryView
