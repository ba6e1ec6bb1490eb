-- The times of some counts.
use Rattle.std.proofs.Common.{◌≡◌, ℕ, List, length}
use Rattle.status_page.specs.declared.counts.LookupTimes.{LookupTimes}
use Rattle.status_server.specs.LookupTimes.{times_of, AreLookupTimes}

pub are_lookup_times : (times : LookupTimes) (counts : List ℕ) (nanoseconds : ℕ) → length counts ≡ 13 → times ≡ times_of counts nanoseconds
    → AreLookupTimes times
are_lookup_times times counts nanoseconds each are = record { counts = counts; each = each; nanoseconds = nanoseconds; are = are }
