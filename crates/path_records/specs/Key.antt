-- The bytes of keys.
use Rattle.std.specs.Prelude.{ℕ, List}
use Rattle.row_map.specs.Database.{key}
use Rattle.path_records.specs.declared.key.Key.{Key}

-- The bytes of a key: the type's number, then the id's bytes.
abbrev pub key_bytes : Key → List ℕ
key_bytes k = key k.kind k.id
