-- When a segment is accepted, and the first refusal of a segment that is not.
use Rattle.std.specs.Prelude.{◌≡◌, ℕ, ◌<◌, ◌≤◌, List, [], ◌∷◌, ◌++◌, length, Bool, IsTrue, nat_le, if◌then◌else◌, Option, Some, None}
use Rattle.std.specs.Option.{option_or}
use Rattle.seg_core.specs.declared.seg_type.SegType.{SegType}
use Rattle.seg_core.specs.SegmentView.{EntryView, SegmentView}
use Rattle.seg_core.specs.Encoding.{IsSegment}
use Rattle.seg_check.specs.declared.error.CheckError.{CheckError}
use Rattle.seg_check.specs.declared.error.CheckError.TheVariants.{BadSignature, Expired}
use Rattle.seg_check.specs.Expiry.{expiry_of}
use Rattle.seg_check.specs.Signatures.{Verdicts, is_verified, AllVerified}

-- ---- the definitions

-- A segment is accepted where it is whole, the signature of each entry is good, and the segment
-- expires later than now.
pub record IsAccepted (verifies : Verdicts) (now : ℕ) (s : SegmentView) : Type 0 where
  pub whole : IsSegment s
  pub verified : AllVerified verifies s.info s.entries
  pub lasting : now < expiry_of s

-- The entry at this index, counted from 0, is the first whose signature is not good.
pub record HasFirstBad (verifies : Verdicts) (info : List ℕ) (entries : List EntryView) (at : ℕ) : Type 0 where
  pub earlier : List EntryView
  pub entry : EntryView
  pub later : List EntryView
  pub stands : entries ≡ earlier ++ entry ∷ later
  pub index : length earlier ≡ at
  pub verified : AllVerified verifies info earlier
  pub unverified : ¬ IsTrue (is_verified verifies info earlier entry)

-- The signature of each entry is good, and the segment has expired.
pub record HasExpired (verifies : Verdicts) (now : ℕ) (s : SegmentView) : Type 0 where
  pub verified : AllVerified verifies s.info s.entries
  pub over : expiry_of s ≤ now

-- ---- the test of these definitions

-- The index of the first of the entries whose signature is not good, after the entries `earlier`.
abbrev pub first_bad_behind : List EntryView → Verdicts → List ℕ → List EntryView → Option ℕ
first_bad_behind earlier verifies info [] = None
first_bad_behind earlier verifies info (e ∷ entries) =
    if is_verified verifies info earlier e then first_bad_behind (earlier ++ e ∷ []) verifies info entries else Some (length earlier)

-- The index of the first entry whose signature is not good.
abbrev pub first_bad : Verdicts → List ℕ → List EntryView → Option ℕ
first_bad = first_bad_behind []

-- The first refusal of a segment, given its first bad entry, and whether it has expired.
abbrev pub check_error_of : Option ℕ → Bool → Option CheckError
check_error_of (Some at) expired = Some (BadSignature at)
check_error_of None expired = if expired then Some Expired else None

-- The first refusal of a segment: the signatures of its entries in order, then its expiry.
unfoldable pub check_refusal : Verdicts → ℕ → SegmentView → Option CheckError
check_refusal verifies now s = check_error_of (first_bad verifies s.info s.entries) (nat_le (expiry_of s) now)

-- The refusal of the first segment that is not accepted, of the segments of a registration.
abbrev pub first_refusal : Verdicts → ℕ → List (SegType × SegmentView) → Option CheckError
first_refusal verifies now [] = None
first_refusal verifies now (row ∷ rows) = option_or (check_refusal verifies now row.1) (first_refusal verifies now rows)
