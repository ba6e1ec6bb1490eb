-- The versions of the format, and the limits of a journal's groups by the version that counts for
-- the journal.
use Rattle.std.specs.Prelude.{◌≡◌, ℕ, ◌≤◌, Bool, true, false, if◌then◌else◌, nat_le}
use Rattle.store_layout.specs.declared.versions.JournalKind.{JournalKind}
use Rattle.store_layout.specs.declared.versions.JournalKind.TheVariants.{Registration, Purge, Removal}

-- The greatest version that is known. Checkpoints are written in this version.
abbrev pub latest : ℕ
latest = 2

-- The limits of groups.
pub record Limits : Type 0 where
  -- The most commands of a group.
  pub most : ℕ
  -- Whether a command may be a removal.
  pub removals : Bool

-- The limits of a version: 8 commands and no removal in version 1, and from version 2 on 32
-- commands, removals among them.
abbrev pub limits_of : ℕ → Limits
limits_of version = if nat_le version 1 then record { most = 8; removals = false } else record { most = 32; removals = true }

-- Limits allow commands of a kind: removals where they say so, and the other kinds always.
abbrev pub allows : Limits → JournalKind → Bool
allows limits Registration = true
allows limits Purge = true
allows limits Removal = limits.removals

-- The second limits allow what the first allow.
pub record AreAsLarge (small large : Limits) : Type 0 where
  pub most : small.most ≤ large.most
  pub removals : small.removals ≡ true → large.removals ≡ true
