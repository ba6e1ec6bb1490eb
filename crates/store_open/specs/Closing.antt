-- How an image changes while the gates of a half are closed.
use Rattle.std.specs.Prelude.{◌≡◌, ◌⊎◌, ℕ, ◌+◌, ◌*◌, ◌≤◌, Bool, true, false, List, length, Result, Ok, Err}
use Rattle.byte_lists.specs.Content.{part}
use Rattle.byte_lists.specs.Sectors.{sector_at, IsOpenGate}
use Rattle.byte_lists.specs.declared.format.TheConstants.{SECTOR}
use Rattle.sector_dev.specs.Disk.{History, after_sync}
use Rattle.store_layout.specs.declared.half.Half.{Half}
use Rattle.store_layout.specs.Layout.{Geometry, gate_at, gate_of, journal_of}
use Rattle.store_layout.specs.StoreFormat.{StoreFormat}
use Rattle.store_layout.specs.Layout.{other}
use Rattle.store_layout.specs.Opening.{Opening, IsOpening}
use Rattle.std.specs.Prelude.{None}

-- The gates of a half are being closed.
pub record IsClosing (geometry : Geometry) (half : Half) (old new : List ℕ) : Type 0 where
  -- The length of the image is unchanged.
  pub size : length new ≡ length old
  -- All but the half's gate and the journal's first gate, in the next sector, is unchanged.
  pub outside : (at n : ℕ) → (at + n ≤ SECTOR * gate_at geometry half) ⊎ (SECTOR * (gate_at geometry half + 2) ≤ at) → part at n new ≡ part at n old
  -- A gate of the half that was closed is unchanged.
  pub gate : (¬ IsOpenGate (gate_of geometry half old)) → gate_of geometry half new ≡ gate_of geometry half old

-- The gates of the half that is not used are being closed. After a seal this half is used, and
-- nothing changes.
abbrev pub IsClosingUnused : Bool → Geometry → Half → List ℕ → List ℕ → Type 0
IsClosingUnused false geometry half old new = IsClosing geometry half old new
IsClosingUnused true geometry half old new = new ≡ old

-- Both gates of a half are closed.
pub record HasClosedGates (geometry : Geometry) (half : Half) (content : List ℕ) : Type 0 where
  pub gate : ¬ IsOpenGate (gate_of geometry half content)
  pub journal : ¬ IsOpenGate (sector_at 0 (journal_of geometry half content))

-- No gate of the half that is not chosen has to be closed: both are closed, or the half is used,
-- after a seal.
abbrev pub HasNoGateToClose : Bool → Geometry → Half → List ℕ → Type 0
HasNoGateToClose false geometry half content = HasClosedGates geometry half content
HasNoGateToClose true geometry half content = Unit {0}

-- The history after a sync with this result. A sync that fails changes nothing.
abbrev pub synced_by : {T E : Type 0} → Result T E → History → History
synced_by (Ok _) history = after_sync history
synced_by (Err _) history = history

-- An image that opens without a tail has the same opening while the gates of the half that is not
-- chosen are being closed.
abbrev pub IsKeptByClosing : Type 0 → Type 0 → Type 0
IsKeptByClosing Db C =
    (format : StoreFormat Db C) (latest : ℕ) (old new : List ℕ) (opening : Opening Db C) → opening.tail ≡ None
    → IsClosing opening.geometry (other opening.chosen) old new → IsOpening format latest old opening → IsOpening format latest new opening
