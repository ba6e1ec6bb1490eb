-- The rows after a purge, and after a removal.
use Rattle.std.specs.Prelude.{ℕ, List, Bool, not, nat_lt, filter}
use Rattle.seg_check.specs.Expiry.{expiry_of}
use Rattle.row_map.specs.Database.{RowView, is_under}

-- A row is valid beyond a moment where it expires after it. Moments are in half seconds since 1970.
abbrev pub is_valid_beyond : ℕ → RowView → Bool
is_valid_beyond moment row = nat_lt moment (expiry_of row.1)

-- The database after a purge, which keeps exactly the rows that are valid beyond its moment.
abbrev pub database_after_purge : List RowView → ℕ → List RowView
database_after_purge rows moment = filter (is_valid_beyond moment) rows

-- The database after a removal, which keeps exactly the rows that are not under its key.
abbrev pub database_after_removal : List RowView → List ℕ → List RowView
database_after_removal rows k = filter (λ row. not (is_under k row)) rows
