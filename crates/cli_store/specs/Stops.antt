-- What a stop within a command leaves of the store on a device.
use Rattle.std.specs.Prelude.{◌≡◌, ◌⊎◌, ℕ, List}
use Rattle.sector_dev.specs.Disk.{Disk}
use Rattle.sector_dev.specs.Image.{IsFromImage}
use Rattle.sector_dev.specs.Stretch.{Stretch}
use Rattle.row_map.specs.Database.{RowView}
use Rattle.store_open.specs.Behind.{SameBehind}
use Rattle.store_open.specs.PathStores.{IsStoreOf}

-- Both images open to the same rows at the same place, and the bytes after their store are the
-- same.
pub record OpenToTheSame (before behind : List ℕ) : Type 0 where
  -- The rows.
  pub rows : List RowView
  -- The place.
  pub place : ℕ
  -- The image before opens to them.
  pub before_is : IsStoreOf rows place before
  -- The image afterwards opens to them.
  pub behind_is : IsStoreOf rows place behind
  -- The bytes after the store are the same.
  pub beyond : SameBehind before_is.opening.geometry before behind

-- The image is what it was, or opens to the rows at the place that it opened to. So it opens to
-- nothing else, and an image that does not open is unchanged.
abbrev pub StandsForTheSame : List ℕ → List ℕ → Type 0
StandsForTheSame before behind = (behind ≡ before) ⊎ OpenToTheSame before behind

-- A stop at any moment from the old state on leaves of an honest device an image that represents
-- the same as an image of the old state.
abbrev pub KeepsItsStore : Disk → Disk → Type 0
KeepsItsStore old new = Stretch old new (IsFromImage old.history.now StandsForTheSame)
