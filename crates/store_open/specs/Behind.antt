-- The bytes after a store on its device.
use Rattle.std.specs.Prelude.{◌≡◌, ℕ, ◌*◌, ◌≤◌, List}
use Rattle.byte_lists.specs.Content.{part}
use Rattle.byte_lists.specs.declared.format.TheConstants.{SECTOR}
use Rattle.store_layout.specs.Layout.{Geometry, image_sectors}

-- The bytes after a store of these sizes are unchanged.
abbrev pub SameBehind : Geometry → List ℕ → List ℕ → Type 0
SameBehind geometry old new = (at n : ℕ) → SECTOR * image_sectors geometry ≤ at → part at n new ≡ part at n old
