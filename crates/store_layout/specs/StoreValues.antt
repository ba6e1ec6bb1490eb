-- The value of a store after commands.
use Rattle.std.specs.Prelude.{◌+◌, List, length}
use Rattle.store_layout.specs.StoreFormat.{StoreFormat, db_after}
use Rattle.store_layout.specs.Opening.{StoreValue}

-- The value of a store after commands.
abbrev pub value_after : {Db C : Type 0} → StoreFormat Db C → StoreValue Db → List C → StoreValue Db
value_after format value commands = record { db = db_after format value.db commands; place = value.place + length commands }
