-- What becomes of a store that is there where one would be made.
use Rattle.std.specs.Prelude.{◌≡◌, ◌⊎◌, ℕ, true, if◌then◌else◌, List, codes, Option}
use Rattle.std.specs.Io.KnownBytes.{Consumes}
use Rattle.sector_dev.specs.Disk.{Disk, IsHonest}
use Rattle.store_open.specs.Titles.{has_title}
use Rattle.store_open.specs.declared.error.OpenError.TheVariants as opening
use Rattle.cli_store.specs.declared.asking.Wishes.{Wishes}
use Rattle.cli_store.specs.declared.asking.Consent.{Consent}
use Rattle.cli_store.specs.declared.asking.Consent.TheVariants.{Given, Refused, Asked}
use Rattle.cli_store.specs.declared.error.Fault.{Fault}
use Rattle.cli_store.specs.declared.error.Fault.TheVariants.{Open, Taken, Declined, Memory, Output}

-- Whether a store that is there may be lost. By force it may. Else it may not, where a store is to
-- be made only where none is. Else a person is asked, and where none can be asked it may.
abbrev pub consent_of : Wishes → Consent
consent_of wishes =
    if wishes.is_forced then Given else if wishes.is_new then Refused else if wishes.is_terminal then Asked else Given

-- Losing the store that is there was agreed to. Where a person was asked, a line with the word `yes`
-- alone was read, and no more.
abbrev pub AgreesBy : Consent → Option (List ℕ) → Option (List ℕ) → Type 0
AgreesBy Given input left = Unit {0}
AgreesBy Refused input left = ⊥
AgreesBy Asked input left = Consumes input left (codes "yes\n")

-- A store may be made: no store is there, or losing it was agreed to.
abbrev pub MayFormat : Wishes → Disk → Option (List ℕ) → Option (List ℕ) → Type 0
MayFormat wishes disk input left = has_title disk ≡ true → AgreesBy (consent_of wishes) input left

-- The question was not printed, or was not answered by `yes`.
abbrev pub IsOfAsking : Fault → Type 0
IsOfAsking fault = (fault ≡ Declined) ⊎ (fault ≡ Memory) ⊎ (fault ≡ Output)

-- Sector 0 is that of a store, as far as the device is honest.
abbrev pub HasStore : Disk → Type 0
HasStore disk = IsHonest disk → has_title disk ≡ true

-- Why no copy is made on a device: sector 0 was not read, or a store is there.
abbrev pub IsTaken : Fault → Disk → Type 0
IsTaken fault disk = (fault ≡ Open opening.Device) ⊎ ((fault ≡ Taken) × HasStore disk)

-- Why the store that is there is kept: sector 0 was not read, or a store is there, and the options
-- keep it, or a person was to be asked and did not agree.
abbrev pub KeepsStore : Fault → Wishes → Disk → Type 0
KeepsStore fault wishes disk =
    (fault ≡ Open opening.Device) ⊎ ((fault ≡ Taken) × (consent_of wishes ≡ Refused) × HasStore disk)
    ⊎ (IsOfAsking fault × (consent_of wishes ≡ Asked) × HasStore disk)
