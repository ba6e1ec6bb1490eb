-- A put: it adds a row under a new key, replaces the row under its key only by a newer one, and
-- otherwise keeps it.
use Rattle.std.specs.Prelude.{List, [], ◌∷◌, Bool, nat_lt, if◌then◌else◌}
use Rattle.std.specs.declared.cmp.Ordering.{Ordering}
use Rattle.std.specs.declared.cmp.Ordering.TheVariants.{Less, Equal, Greater}
use Rattle.row_map.specs.declared.change.Change.{Change}
use Rattle.row_map.specs.declared.change.Change.TheVariants.{Inserted, Updated, Kept}
use Rattle.row_map.specs.Database.{RowView, key_order}

-- A row is newer than another where its timestamp is strictly greater.
abbrev pub is_newer : RowView → RowView → Bool
is_newer row old = nat_lt old.1.timestamp row.1.timestamp

-- The rows after a put, by the order of the put row's key and the key of the first row. All other
-- rows are unchanged.
abbrev pub put_before : Ordering → RowView → RowView → List RowView → List RowView → List RowView
put_before Less row old others later = row ∷ old ∷ others
put_before Equal row old others later = (if is_newer row old then row else old) ∷ others
put_before Greater row old others later = old ∷ later

-- The database after a put.
unfoldable pub database_after_put : List RowView → RowView → List RowView
database_after_put [] row = row ∷ []
database_after_put (old ∷ others) row = put_before (key_order row old) row old others (database_after_put others row)

-- What a put does, by the order of its key and the key of the first row.
abbrev pub change_before : Ordering → RowView → RowView → Change → Change
change_before Less row old later = Inserted
change_before Equal row old later = if is_newer row old then Updated else Kept
change_before Greater row old later = later

-- What a put does.
unfoldable pub change_of : List RowView → RowView → Change
change_of [] row = Inserted
change_of (old ∷ others) row = change_before (key_order row old) row old (change_of others row)

-- The database after several puts, in order.
unfoldable pub database_after_puts : List RowView → List RowView → List RowView
database_after_puts rows [] = rows
database_after_puts rows (row ∷ new) = database_after_puts (database_after_put rows row) new

-- What each of several puts does, one after the other.
unfoldable pub changes_of : List RowView → List RowView → List Change
changes_of rows [] = []
changes_of rows (row ∷ new) = change_of rows row ∷ changes_of (database_after_put rows row) new
