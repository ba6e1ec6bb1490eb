-- The contents of a store: databases, encoded as rows, and commands that change them. All
-- definitions are for any databases and commands that satisfy these laws.
use Rattle.std.specs.Prelude.{◌≡◌, ℕ, List, [], ◌∷◌, Option, Some}
use Rattle.byte_lists.specs.Content.{AreBytes}
use Rattle.store_layout.specs.CommandFormat.{CommandFormat}

-- A format of the rows of a database.
pub record RowsFormat (Db : Type 0) : Type 0 where
  -- The encoding of the rows.
  pub encoding : Db → List ℕ
  -- The number of the rows.
  pub count : Db → ℕ
  -- The database as which bytes are read, given a number of rows. `None` where they are not rows,
  -- or are not in order.
  pub decoding : ℕ → List ℕ → Option Db
  -- The encoding of a database that is read is the bytes.
  pub spelled : (count : ℕ) (bytes : List ℕ) (db : Db) → AreBytes bytes → decoding count bytes ≡ Some db → encoding db ≡ bytes
  -- A database that is read has the given number of rows.
  pub counted : (n : ℕ) (bytes : List ℕ) (db : Db) → AreBytes bytes → decoding n bytes ≡ Some db → count db ≡ n

-- The encoded rows of a database are read as the same database.
abbrev pub IsStorable : {Db : Type 0} → RowsFormat Db → Db → Type 0
IsStorable rows db = rows.decoding (rows.count db) (rows.encoding db) ≡ Some db

-- A format of databases and commands.
pub record StoreFormat (Db C : Type 0) : Type 0 where
  -- The format of rows.
  pub rows : RowsFormat Db
  -- The format of commands.
  pub commands : CommandFormat C
  -- The database after a command.
  pub apply : Db → C → Db
  -- The empty database.
  pub empty : Db
  -- The encoding of the empty database is no bytes.
  pub none : rows.decoding 0 [] ≡ Some empty

-- The database after commands, applied from the left.
abbrev pub db_after : {Db C : Type 0} → StoreFormat Db C → Db → List C → Db
db_after format db [] = db
db_after format db (command ∷ more) = db_after format (format.apply db command) more
