-- Messages with a time that lies too far in the future.
use Rattle.std.specs.Prelude.{◌≡◌, ℕ, ◌+◌, ◌*◌, Bool, true, false, nat_lt, List, Option, Some, None, Result, Ok, Err}
use Rattle.std.specs.List.{list_any}
use Rattle.std.specs.Result.{is_ok}
use Rattle.seg_core.specs.declared.error.SegError.{SegError}
use Rattle.seg_core.specs.Registration.{registration_decoding}
use Rattle.row_map.specs.Database.{RowView}
use Rattle.session_core.specs.declared.message.Message.TheVariants.{Register, Purge}
use Rattle.session_core.specs.declared.message.Message.TheVariants as message
use Rattle.session_core.specs.Frames.{MessageView}

-- The last moment, in half seconds, that is not too far in the future, by a bound in seconds.
abbrev pub last_moment : ℕ → ℕ → ℕ
last_moment bound now = now + 2 * bound

-- The timestamp of a segment, in seconds, lies after a moment in half seconds.
abbrev pub is_row_after : ℕ → RowView → Bool
is_row_after last row = nat_lt last (2 * row.1.timestamp)

-- A timestamp of the segments of a registration that was read does.
abbrev pub is_read_after : ℕ → Result (List RowView) SegError → Bool
is_read_after last (Ok rows) = list_any (is_row_after last) rows
is_read_after last (Err e) = false

-- By a bound in seconds, a message has a time that lies too far after now: the timestamp of one of
-- a registration's segments, or the moment of a purge. Now is in half seconds.
abbrev pub is_future : ℕ → ℕ → MessageView → Bool
is_future bound now (Register body) = is_read_after (last_moment bound now) (registration_decoding body)
is_future bound now (Purge until) = nat_lt (last_moment bound now) until
is_future bound now _ = false

-- A message names a time: a registration that can be read, or a purge.
abbrev pub names_time : MessageView → Bool
names_time (Register body) = is_ok (registration_decoding body)
names_time (Purge until) = true
names_time _ = false

-- Whether a message lies in the future is judged by the bound, if there is one, at the moment that
-- the clock gave. The clock is asked for messages that name a time.
abbrev pub IsJudged : Option ℕ → Option ℕ → MessageView → Bool → Type 0
IsJudged None None message future = future ≡ false
IsJudged None (Some now) message future = ⊥
IsJudged (Some bound) None message future = (names_time message ≡ false) × (future ≡ false)
IsJudged (Some bound) (Some now) message future = (names_time message ≡ true) × (future ≡ is_future bound now message)
