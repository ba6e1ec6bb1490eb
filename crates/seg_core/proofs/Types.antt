-- A type and its number, and whether the type has had an entry. For `Earlier::new_type`, `read_map`
-- and the law on types.
use Rattle.std.proofs.Common.{◌≡◌, ℕ, zero, suc, Bool, true, false, not, List, [], ◌∷◌, ◌++◌, Ok, refl, sym, ap, ◌∙◌}
use Rattle.std.specs.Prelude.{◌||◌, ◌==◌}
use Rattle.std.proofs.Math.Bool.{or-false}
use Rattle.std.proofs.lemmas.List.Folds.{list_any-append}
use Rattle.seg_core.specs.declared.earlier.Earlier.{Earlier}
use Rattle.seg_core.specs.declared.seg_type.SegType.{SegType}
use Rattle.seg_core.specs.declared.seg_type.SegType.TheVariants.{Up, Down, Core}
use Rattle.seg_core.specs.SegmentView.{SegmentView}
use Rattle.seg_core.specs.Registration.{type_number, type_of, MapEntry, has_type, new_type}
use Rattle.seg_core.specs.declared.error.SegError.TheVariants.{RepeatedMessage}
use Rattle.seg_core.specs.Steps.{◌>>=◌, must_hold}
use Rattle.seg_core.specs.Earlier.{is_in, with_type, AreIn}

-- ---- numbers

-- The number that gives a type is the number of that type.
pub type_number-of : (n : ℕ) (kind : SegType) → type_of n ≡ Ok kind → type_number kind ≡ n
type_number-of zero kind e = cc
type_number-of (suc zero) Up e = refl
type_number-of (suc zero) Down e = cc
type_number-of (suc zero) Core e = cc
type_number-of (suc (suc zero)) Up e = cc
type_number-of (suc (suc zero)) Down e = refl
type_number-of (suc (suc zero)) Core e = cc
type_number-of (suc (suc (suc zero))) Up e = cc
type_number-of (suc (suc (suc zero))) Down e = cc
type_number-of (suc (suc (suc zero))) Core e = refl
type_number-of (suc (suc (suc (suc n)))) kind e = cc

-- A type's number gives that type.
pub type_of-number : (kind : SegType) → type_of (type_number kind) ≡ Ok kind
type_of-number Up = refl
type_of-number Down = refl
type_of-number Core = refl

-- ---- entries

-- A type that has had an entry is refused, and another one is given.
pub new_type-is : (entries : List MapEntry) (seen : Earlier) (n : ℕ) (kind : SegType) → AreIn entries seen → type_of n ≡ Ok kind → new_type entries n ≡ (must_hold (not (is_in seen kind)) RepeatedMessage >>= λ _. Ok kind)
unfolding new_type
new_type-is entries seen n kind noted e =
    ap (λ r. r >>= λ kind. must_hold (not (has_type entries kind)) RepeatedMessage >>= λ _. Ok kind) e
    ∙ ap (λ b. must_hold (not b) RepeatedMessage >>= λ _. Ok kind) (sym (noted kind))

or_true : (b : Bool) → (b || true) ≡ true
or_true true = refl
or_true false = refl

-- whether a type is among the types of one more entry
has_type-push : (entries : List MapEntry) (of kind : SegType) (segments : List SegmentView) → has_type (entries ++ (of, segments) ∷ []) kind ≡ (has_type entries kind || type_number of == type_number kind)
has_type-push entries of kind segments =
    list_any-append (λ entry. type_number entry.0 == type_number kind) entries ((of, segments) ∷ [])
    ∙ ap (λ b. has_type entries kind || b) (or-false (type_number of == type_number kind))

is_in-with : (seen : Earlier) (of kind : SegType) → is_in (with_type seen of) kind ≡ (is_in seen kind || type_number of == type_number kind)
is_in-with seen Up Up = sym (or_true seen.up)
is_in-with seen Up Down = sym (or-false seen.down)
is_in-with seen Up Core = sym (or-false seen.core)
is_in-with seen Down Up = sym (or-false seen.up)
is_in-with seen Down Down = sym (or_true seen.down)
is_in-with seen Down Core = sym (or-false seen.core)
is_in-with seen Core Up = sym (or-false seen.up)
is_in-with seen Core Down = sym (or-false seen.down)
is_in-with seen Core Core = sym (or_true seen.core)

-- After one more entry its type is noted.
pub AreIn-with : (entries : List MapEntry) (seen : Earlier) (of : SegType) (segments : List SegmentView) → AreIn entries seen → AreIn (entries ++ (of, segments) ∷ []) (with_type seen of)
AreIn-with entries seen of segments noted kind =
    is_in-with seen of kind
    ∙ ap (λ b. b || type_number of == type_number kind) (noted kind)
    ∙ sym (has_type-push entries of kind segments)
