-- The first refusal of a segment is exactly what `IsAccepted`, `HasFirstBad` and `HasExpired`
-- define.
use Rattle.std.proofs.Common.{◌≡◌, ℕ, ◌<◌, Bool, true, false, List, [], ◌∷◌, ◌++◌, length, refl, sym, ap, subst, ◌∙◌, inl, inr, append_assoc, append-nil, drop, arith}
use Rattle.std.specs.Prelude.{IsTrue, nat_le, Option, Some, None}
use Rattle.std.proofs.lemmas.Bool.{cases_Bool, leb-true, le-leb}
use Rattle.seg_core.specs.SegmentView.{EntryView, SegmentView}
use Rattle.seg_core.specs.Encoding.{IsSegment}
use Rattle.seg_check.specs.declared.error.CheckError.TheVariants.{BadSignature, Expired}
use Rattle.seg_check.specs.Expiry.{expiry_of}
use Rattle.seg_check.specs.Signatures.{Verdicts, is_verified, AllVerified}
use Rattle.seg_check.specs.Checking.{IsAccepted, HasFirstBad, HasExpired, first_bad_behind, first_bad, check_error_of, check_refusal}

-- ---- entries after earlier ones

-- the signature of each entry is good, where these entries come before
abbrev AllBehind : List EntryView → Verdicts → List ℕ → List EntryView → Type 0
AllBehind earlier verifies info entries =
    (before later : List EntryView) (e : EntryView) → entries ≡ before ++ e ∷ later → IsTrue (is_verified verifies info (earlier ++ before) e)

-- the first of a list, or this entry where the list is empty
abbrev head_or : EntryView → List EntryView → EntryView
head_or d [] = d
head_or d (x ∷ xs) = x

some_is : (m n : ℕ) → Some m ≡ Some n → m ≡ n
some_is m n is = cc

-- the empty list has no element
no_middle : {X : Type 0} (before later : List X) (x : X) → [] ≡ before ++ x ∷ later → ⊥
no_middle [] later x is = cc
no_middle (b ∷ before) later x is = cc

all_nil : (earlier : List EntryView) (verifies : Verdicts) (info : List ℕ) → AllBehind earlier verifies info []
all_nil earlier verifies info before later e is = absurd (no_middle before later e is)

all_more : (earlier : List EntryView) (verifies : Verdicts) (info : List ℕ) (x : EntryView) (xs : List EntryView)
    → is_verified verifies info earlier x ≡ true → AllBehind (earlier ++ x ∷ []) verifies info xs → AllBehind earlier verifies info (x ∷ xs)
all_more earlier verifies info x xs good others [] later e is =
    let same : x ≡ e = ap (head_or x) is in
    rw (append-nil earlier, sym same) good
all_more earlier verifies info x xs good others (b ∷ before) later e is =
    let same : x ≡ b = ap (head_or x) is in
    let moved : (earlier ++ x ∷ []) ++ before ≡ earlier ++ b ∷ before = append_assoc earlier (x ∷ []) before ∙ ap (λ y. earlier ++ y ∷ before) same in
    subst (λ l. IsTrue (is_verified verifies info l e)) moved (others before later e (ap (drop 1) is))

-- the same of the parts of a list of entries
all_first : (earlier : List EntryView) (verifies : Verdicts) (info : List ℕ) (x : EntryView) (xs : List EntryView)
    → AllBehind earlier verifies info (x ∷ xs) → is_verified verifies info earlier x ≡ true
all_first earlier verifies info x xs all = subst (λ l. is_verified verifies info l x ≡ true) (append-nil earlier) (all [] xs x refl)

all_others : (earlier : List EntryView) (verifies : Verdicts) (info : List ℕ) (x : EntryView) (xs : List EntryView)
    → AllBehind earlier verifies info (x ∷ xs) → AllBehind (earlier ++ x ∷ []) verifies info xs
all_others earlier verifies info x xs all before later e is =
    subst (λ l. IsTrue (is_verified verifies info l e)) (sym (append_assoc earlier (x ∷ []) before)) (all (x ∷ before) later e (ap (λ l. x ∷ l) is))

none_all : (earlier : List EntryView) (verifies : Verdicts) (info : List ℕ) (entries : List EntryView)
    → first_bad_behind earlier verifies info entries ≡ None → AllBehind earlier verifies info entries
none_all earlier verifies info [] none = all_nil earlier verifies info
none_all earlier verifies info (x ∷ xs) none = elim (cases_Bool (is_verified verifies info earlier x)) [
  | inl good ↦ all_more earlier verifies info x xs good (none_all (earlier ++ x ∷ []) verifies info xs (rw good at none))
  | inr bad ↦ absurd (let some = rw bad at none in cc)
]

all_none : (earlier : List EntryView) (verifies : Verdicts) (info : List ℕ) (entries : List EntryView)
    → AllBehind earlier verifies info entries → first_bad_behind earlier verifies info entries ≡ None
all_none earlier verifies info [] all = refl
all_none earlier verifies info (x ∷ xs) all =
    rw (all_first earlier verifies info x xs all) (all_none (earlier ++ x ∷ []) verifies info xs (all_others earlier verifies info x xs all))

-- a first entry whose signature is not good, after earlier ones
record FoundBehind (earlier : List EntryView) (verifies : Verdicts) (info : List ℕ) (entries : List EntryView) (at : ℕ) : Type 0 where
  before : List EntryView
  entry : EntryView
  later : List EntryView
  stands : entries ≡ before ++ entry ∷ later
  index : length (earlier ++ before) ≡ at
  verified : AllBehind earlier verifies info before
  unverified : ¬ IsTrue (is_verified verifies info (earlier ++ before) entry)

some_found : (earlier : List EntryView) (verifies : Verdicts) (info : List ℕ) (entries : List EntryView) (at : ℕ)
    → first_bad_behind earlier verifies info entries ≡ Some at → FoundBehind earlier verifies info entries at
some_found earlier verifies info [] at some = absurd cc
some_found earlier verifies info (x ∷ xs) at some = elim (cases_Bool (is_verified verifies info earlier x)) [
  | inl good ↦
      let found = some_found (earlier ++ x ∷ []) verifies info xs at (rw good at some) in
      let moved = append_assoc earlier (x ∷ []) found.before in
      record {
        before = x ∷ found.before;
        entry = found.entry;
        later = found.later;
        stands = ap (λ l. x ∷ l) found.stands;
        index = ap length (sym moved) ∙ found.index;
        verified = all_more earlier verifies info x found.before good found.verified;
        unverified = subst (λ l. ¬ IsTrue (is_verified verifies info l found.entry)) moved found.unverified;
      }
  | inr bad ↦
      record {
        before = [];
        entry = x;
        later = xs;
        stands = refl;
        index = ap length (append-nil earlier) ∙ some_is (length earlier) at (rw bad at some);
        verified = all_nil earlier verifies info;
        unverified = λ good. let still : is_verified verifies info earlier x ≡ true = subst (λ l. is_verified verifies info l x ≡ true) (append-nil earlier) good in cc;
      }
]

found_some : (earlier : List EntryView) (verifies : Verdicts) (info : List ℕ) (before later : List EntryView) (e : EntryView)
    → AllBehind earlier verifies info before → ¬ IsTrue (is_verified verifies info (earlier ++ before) e)
    → first_bad_behind earlier verifies info (before ++ e ∷ later) ≡ Some (length (earlier ++ before))
found_some earlier verifies info [] later e all bad = elim (cases_Bool (is_verified verifies info earlier e)) [
  | inl good ↦ absurd (bad (rw (append-nil earlier) good))
  | inr not_good ↦ rw (not_good, append-nil earlier) refl
]
found_some earlier verifies info (b ∷ before) later e all bad =
    let moved = append_assoc earlier (b ∷ []) before in
    let others = all_others earlier verifies info b before all in
    let still = subst (λ l. ¬ IsTrue (is_verified verifies info l e)) (sym moved) bad in
    rw (all_first earlier verifies info b before all) (found_some (earlier ++ b ∷ []) verifies info before later e others still ∙ ap (λ l. Some (length l)) moved)

-- ---- entries

pub none-AllVerified : (verifies : Verdicts) (info : List ℕ) (entries : List EntryView) → first_bad verifies info entries ≡ None → AllVerified verifies info entries
none-AllVerified = none_all []

pub AllVerified-none : (verifies : Verdicts) (info : List ℕ) (entries : List EntryView) → AllVerified verifies info entries → first_bad verifies info entries ≡ None
AllVerified-none = all_none []

some-HasFirstBad : (verifies : Verdicts) (info : List ℕ) (entries : List EntryView) (at : ℕ) → first_bad verifies info entries ≡ Some at → HasFirstBad verifies info entries at
some-HasFirstBad verifies info entries at some =
    let found = some_found [] verifies info entries at some in
    record { earlier = found.before; entry = found.entry; later = found.later; stands = found.stands; index = found.index; verified = found.verified; unverified = found.unverified }

HasFirstBad-some : (verifies : Verdicts) (info : List ℕ) (entries : List EntryView) (at : ℕ) → HasFirstBad verifies info entries at → first_bad verifies info entries ≡ Some at
HasFirstBad-some verifies info entries at has =
    ap (first_bad verifies info) has.stands
    ∙ found_some [] verifies info has.earlier has.later has.entry has.verified has.unverified
    ∙ ap Some has.index

-- ---- the refusal

refusal-none : (bad : Option ℕ) (expired : Bool) → check_error_of bad expired ≡ None → (bad ≡ None) × (expired ≡ false)
refusal-none None true is = absurd cc
refusal-none None false is = (refl, refl)
refusal-none (Some at) expired is = absurd cc

refusal-bad : (bad : Option ℕ) (expired : Bool) (at : ℕ) → check_error_of bad expired ≡ Some (BadSignature at) → bad ≡ Some at
refusal-bad None true at is = absurd cc
refusal-bad None false at is = absurd cc
refusal-bad (Some index) expired at is = cc

refusal-expired : (bad : Option ℕ) (expired : Bool) → check_error_of bad expired ≡ Some Expired → (bad ≡ None) × (expired ≡ true)
refusal-expired None true is = (refl, refl)
refusal-expired None false is = absurd cc
refusal-expired (Some at) expired is = absurd cc

not_over : (a b : ℕ) → nat_le a b ≡ false → b < a
not_over a b h = grind arith

over_not : (a b : ℕ) → b < a → nat_le a b ≡ false
over_not a b lt = grind arith

pub none-IsAccepted : (verifies : Verdicts) (now : ℕ) (s : SegmentView) → IsSegment s → check_refusal verifies now s ≡ None → IsAccepted verifies now s
unfolding check_refusal
none-IsAccepted verifies now s whole is =
    let parts = refusal-none (first_bad verifies s.info s.entries) (nat_le (expiry_of s) now) is in
    record { whole = whole; verified = none-AllVerified verifies s.info s.entries parts.0; lasting = not_over (expiry_of s) now parts.1 }

pub IsAccepted-none : (verifies : Verdicts) (now : ℕ) (s : SegmentView) → IsAccepted verifies now s → check_refusal verifies now s ≡ None
unfolding check_refusal
IsAccepted-none verifies now s accepted =
    rw (AllVerified-none verifies s.info s.entries accepted.verified, over_not (expiry_of s) now accepted.lasting) refl

pub bad-HasFirstBad : (verifies : Verdicts) (now : ℕ) (s : SegmentView) (at : ℕ) → check_refusal verifies now s ≡ Some (BadSignature at) → HasFirstBad verifies s.info s.entries at
unfolding check_refusal
bad-HasFirstBad verifies now s at is =
    some-HasFirstBad verifies s.info s.entries at (refusal-bad (first_bad verifies s.info s.entries) (nat_le (expiry_of s) now) at is)

pub HasFirstBad-bad : (verifies : Verdicts) (now : ℕ) (s : SegmentView) (at : ℕ) → HasFirstBad verifies s.info s.entries at → check_refusal verifies now s ≡ Some (BadSignature at)
unfolding check_refusal
HasFirstBad-bad verifies now s at has = rw (HasFirstBad-some verifies s.info s.entries at has) refl

pub expired-HasExpired : (verifies : Verdicts) (now : ℕ) (s : SegmentView) → check_refusal verifies now s ≡ Some Expired → HasExpired verifies now s
unfolding check_refusal
expired-HasExpired verifies now s is =
    let parts = refusal-expired (first_bad verifies s.info s.entries) (nat_le (expiry_of s) now) is in
    record { verified = none-AllVerified verifies s.info s.entries parts.0; over = leb-true (expiry_of s) now parts.1 }

pub HasExpired-expired : (verifies : Verdicts) (now : ℕ) (s : SegmentView) → HasExpired verifies now s → check_refusal verifies now s ≡ Some Expired
unfolding check_refusal
HasExpired-expired verifies now s has =
    rw (AllVerified-none verifies s.info s.entries has.verified, le-leb (expiry_of s) now has.over) refl
