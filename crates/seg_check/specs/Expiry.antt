-- When a segment expires. Moments are in half seconds since 1970.
use Rattle.std.specs.Prelude.{ℕ, ◌+◌, ◌*◌, List, map, min}
use Rattle.std.specs.List.{reduce}
use Rattle.std.specs.Option.{unwrap_or}
use Rattle.seg_core.specs.SegmentView.{EntryView, SegmentView}

-- The moment at which the hop entry of an AS expires: a unit of exp_time is 337.5 seconds.
abbrev pub hop_expiry : ℕ → EntryView → ℕ
hop_expiry timestamp e = 2 * timestamp + 675 * (1 + e.exp_time)

-- The least exp_time of the entries, 0 where there is none.
abbrev pub least_exp_time : List EntryView → ℕ
least_exp_time entries = unwrap_or (reduce min (map (λ e. e.exp_time) entries)) 0

-- The moment at which the segment expires.
unfoldable pub expiry_of : SegmentView → ℕ
expiry_of s = 2 * s.timestamp + 675 * (1 + least_exp_time s.entries)
