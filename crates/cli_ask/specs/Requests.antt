-- The bodies of requests.
use Rattle.std.specs.Prelude.{ℕ, zero, suc, List, [], ◌++◌}
use Rattle.pw_wire.specs.Field.{varint_field_encoding}

-- A side of a lookup as a field of this number, which is left out where the side is 0.
abbrev pub side_encoding : ℕ → ℕ → List ℕ
side_encoding field_number zero = []
side_encoding field_number (suc n) = varint_field_encoding field_number (suc n)

-- The body of a lookup: its source and its destination.
abbrev pub request_encoding : ℕ → ℕ → List ℕ
request_encoding source destination = side_encoding 1 source ++ side_encoding 2 destination
