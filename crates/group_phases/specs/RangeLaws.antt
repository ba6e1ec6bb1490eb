-- Laws of ranges, and what calls do to ranges. Each statement is the contract of a function.
use Rattle.std.specs.Prelude.{◌≡◌, ℕ, ◌+◌, ◌*◌, ◌≤◌, List, ◌++◌, length, Result, Ok}
use Rattle.byte_lists.specs.Content.{part}
use Rattle.byte_lists.specs.declared.format.TheConstants.{SECTOR}
use Rattle.sector_dev.specs.Disk.{Moment, Disk, IsHonest, reads_of}
use Rattle.sector_dev.specs.Image.{IsCleanPart, IsImage}
use Rattle.sector_dev.specs.Calls.{WriteCall, SyncCall}
use Rattle.sector_dev.specs.Stretch.{Stretch}
use Rattle.group_phases.specs.Range.{ReadSo, IsCleanContent, Untouched, as_moment, AreRangesApart, IsLeftAround}

-- Every image has the bytes of a clean range.
abbrev pub IsInEveryImage : Type 0
IsInEveryImage =
    (moment : Moment) (at : ℕ) (content image : List ℕ) → IsCleanContent moment at content → IsImage moment image
    → part at (length content) image ≡ content

-- A part of a clean range is clean.
abbrev pub HasSettledParts : Type 0
HasSettledParts =
    (moment : Moment) (at : ℕ) (content : List ℕ) (from n : ℕ) → from + n ≤ length content
    → IsCleanContent moment at content → IsCleanContent moment (at + from) (part from n content)

-- Two neighbouring clean ranges are one clean range.
abbrev pub JoinsNeighbours : Type 0
JoinsNeighbours =
    (moment : Moment) (at : ℕ) (front behind : List ℕ)
    → IsCleanContent moment at front → IsCleanContent moment (at + length front) behind → IsCleanContent moment at (front ++ behind)

-- Untouched bytes read as before.
abbrev pub ReadsAsBefore : Type 0
ReadsAsBefore = (at n : ℕ) (old new : Moment) → Untouched at n old new → part at n new.reads ≡ part at n old.reads

-- Untouched bytes stay clean.
abbrev pub StaysSettled : Type 0
StaysSettled =
    (at : ℕ) (content : List ℕ) (old new : Moment) → Untouched at (length content) old new
    → IsCleanContent old at content → IsCleanContent new at content

-- A part of an untouched range is untouched.
abbrev pub HasUntouchedParts : Type 0
HasUntouchedParts =
    (at n from m : ℕ) (old new : Moment) → at ≤ from → from + m ≤ at + n → Untouched at n old new → Untouched from m old new

-- A range that is untouched twice in succession is untouched.
abbrev pub StaysOnAndOn : Type 0
StaysOnAndOn = (at n : ℕ) (old mid new : Moment) → Untouched at n old mid → Untouched at n mid new → Untouched at n old new

-- A clean range is in each image as reads give it.
abbrev pub CleanStaysInImages : Type 0
CleanStaysInImages =
    (at n : ℕ) (moment : Moment) (image : List ℕ) → IsCleanPart moment.dirty at n → IsImage moment image
    → Untouched at n moment (as_moment image)

-- A write leaves what is beside it untouched, whatever its result.
abbrev pub WritesLeaveWhatIsBeside : Type 0 → Type 0 → Type 0
WritesLeaveWhatIsBeside T E =
    (sector : ℕ) (bytes : List ℕ) (result : Result T E) (old new : Disk) (at n : ℕ)
    → WriteCall sector bytes result old new → IsHonest old → SECTOR * sector + length bytes ≤ length (reads_of old)
    → AreRangesApart (SECTOR * sector) (length bytes) at n → Untouched at n old.history.now new.history.now

-- A write that succeeds is read.
abbrev pub WritesAreRead : Type 0 → Type 0 → Type 0
WritesAreRead T E =
    (value : T) (sector : ℕ) (bytes : List ℕ) (old new : Disk)
    → WriteCall sector bytes (let result : Result T E = Ok value in result) old new → IsHonest old
    → SECTOR * sector + length bytes ≤ length (reads_of old) → ReadSo new.history.now (SECTOR * sector) bytes

-- A sync leaves all bytes untouched, whatever its result.
abbrev pub SyncsLeaveAll : Type 0 → Type 0 → Type 0
SyncsLeaveAll T E =
    (result : Result T E) (old new : Disk) (at n : ℕ) → SyncCall result old new → IsHonest old
    → Untouched at n old.history.now new.history.now

-- A sync that succeeds makes clean what reads give.
abbrev pub SyncsSettle : Type 0 → Type 0 → Type 0
SyncsSettle T E =
    (value : T) (old new : Disk) (at : ℕ) (content : List ℕ)
    → SyncCall (let result : Result T E = Ok value in result) old new → IsHonest old
    → ReadSo old.history.now at content → IsCleanContent new.history.now at content

-- A stop within a write leaves what a stop before it or after it may leave.
abbrev pub WritesAreOneMoment : Type 0 → Type 0 → Type 0
WritesAreOneMoment T E =
    (sector : ℕ) (bytes : List ℕ) (result : Result T E) (old new : Disk) → WriteCall sector bytes result old new
    → Stretch old new (IsLeftAround old new)

-- A stop within a sync leaves what a stop before it may leave.
abbrev pub SyncsAreNoMoment : Type 0 → Type 0 → Type 0
SyncsAreNoMoment T E =
    (result : Result T E) (old new : Disk) → SyncCall result old new → Stretch old new (IsImage old.history.now)
