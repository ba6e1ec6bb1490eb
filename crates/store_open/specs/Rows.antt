-- The reading of the rows of a checkpoint.
use Rattle.std.specs.Prelude.{◌≡◌, ℕ, List, None, Result, Ok, Err}
use Rattle.path_records.specs.RowRecord.{rows_decoding}
use Rattle.ckpt_pair.specs.Rows.{as_counted}
use Rattle.ckpt_pair.specs.declared.error.PairError.TheVariants as pair
use Rattle.store_open.specs.declared.error.OpenError.{OpenError}
use Rattle.store_open.specs.declared.error.OpenError.TheVariants.{NotAStore, Device, Pair, Journal, NoMemory}

-- A reader was fed all of these bytes, or they are no rows, for any count.
abbrev pub FeedsSo : List ℕ → Result (List ℕ) OpenError → Type 0
FeedsSo bytes (Ok fed) = fed ≡ bytes
FeedsSo bytes (Err NotAStore) = ⊥
FeedsSo bytes (Err Device) = Unit {0}
FeedsSo bytes (Err (Pair e)) = (e ≡ pair.BadCheckpoint) × ((count : ℕ) → as_counted count (rows_decoding bytes) ≡ None)
FeedsSo bytes (Err (Journal e)) = ⊥
FeedsSo bytes (Err NoMemory) = Unit {0}
