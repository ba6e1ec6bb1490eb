-- The sizes of a store by the number of rows for which it has room.
use Rattle.std.specs.Prelude.{ℕ, ◌+◌, ◌/◌, min, max}
use Rattle.store_layout.specs.Layout.{Geometry, most_of_region}

-- A checkpoint area of a sector for each row and one more, and a journal of an eighth as many
-- sectors as rows, of at least 1,024 and at most 65,536.
abbrev pub sizes_for : ℕ → Geometry
sizes_for rows = record { checkpoint = min (rows + 1) most_of_region; journal = min (max (rows / 8) 1024) 65536 }
