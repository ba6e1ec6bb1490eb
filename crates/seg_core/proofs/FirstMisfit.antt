-- The test finds the first field that does not fit, as the relation defines it. For the law
-- `first_misfit_is_exact`.
use Rattle.std.proofs.Common.{◌≡◌, ◌⊎◌, ⊎_elim, inl, inr, List, [], ◌∷◌, ◌++◌, Option, Some, None, refl, sym, ap, subst, ◌∙◌, append_assoc, append-nil}
use Rattle.std.specs.Prelude.{◌↔◌}
use Rattle.std.specs.Option.{option_or}
use Rattle.pw_wire.specs.Field.{FieldView}
use Rattle.seg_core.specs.declared.error.SegError.{SegError}
use Rattle.seg_core.specs.declared.field_kind.FieldKind.{FieldKind}
use Rattle.seg_core.specs.Message.{misfit_at, AllFit, HasFirstMisfit, misfit_after, first_misfit}

-- ---- none

or_none : {A : Type 0} (a b : Option A) → option_or a b ≡ None → (a ≡ None) × (b ≡ None)
or_none None b e = (refl, e)
or_none (Some x) b e = absurd cc

-- one more field before the others
shifted : {A : Type 0} (before p : List A) (g : A) → (before ++ g ∷ []) ++ p ≡ before ++ g ∷ p
shifted before p g = append_assoc before (g ∷ []) p

fits : (shape : List FieldKind) (before p after : List FieldView) (f : FieldView) → misfit_after shape before (p ++ f ∷ after) ≡ None → misfit_at shape (before ++ p) f ≡ None
fits shape before [] after f e = rw (append-nil before) (or_none (misfit_at shape before f) (misfit_after shape (before ++ f ∷ []) after) e).0
fits shape before (g ∷ p) after f e =
    subst (λ xs. misfit_at shape xs f ≡ None) (shifted before p g)
    (fits shape (before ++ g ∷ []) p after f (or_none (misfit_at shape before g) (misfit_after shape (before ++ g ∷ []) (p ++ f ∷ after)) e).1)

none_from : (shape : List FieldKind) (before fs : List FieldView) → ((p after : List FieldView) (f : FieldView) → fs ≡ p ++ f ∷ after → misfit_at shape (before ++ p) f ≡ None) → misfit_after shape before fs ≡ None
none_from shape before [] fit = refl
none_from shape before (g ∷ fs) fit =
    let here : misfit_at shape before g ≡ None = subst (λ xs. misfit_at shape xs g ≡ None) (append-nil before) (fit [] fs g refl) in
    let later = none_from shape (before ++ g ∷ []) fs
    (λ p after f is. rw (shifted before p g) (fit (g ∷ p) after f (ap (λ xs. g ∷ xs) is))) in
    ap (λ o. option_or o (misfit_after shape (before ++ g ∷ []) fs)) here ∙ later

pub all_fit-iff : (shape : List FieldKind) (fs : List FieldView) → (first_misfit shape fs ≡ None) ↔ AllFit shape fs
all_fit-iff shape fs =
    (λ none before after f is. fits shape [] before after f (subst (λ xs. misfit_after shape [] xs ≡ None) is none), λ fit. none_from shape [] fs fit)

-- ---- one

-- the first of three
or_assoc : {A : Type 0} (a b c : Option A) → option_or a (option_or b c) ≡ option_or (option_or a b) c
or_assoc None b c = refl
or_assoc (Some x) b c = refl

misfit_after-append : (shape : List FieldKind) (before p q : List FieldView) → misfit_after shape before (p ++ q) ≡ option_or (misfit_after shape before p) (misfit_after shape (before ++ p) q)
misfit_after-append shape before [] q = ap (λ xs. misfit_after shape xs q) (sym (append-nil before))
misfit_after-append shape before (g ∷ p) q =
    let later = misfit_after-append shape (before ++ g ∷ []) p q in
    ap (option_or (misfit_at shape before g)) (later ∙ ap (λ xs. option_or (misfit_after shape (before ++ g ∷ []) p) (misfit_after shape xs q)) (shifted before p g))
    ∙ or_assoc (misfit_at shape before g) (misfit_after shape (before ++ g ∷ []) p) (misfit_after shape (before ++ g ∷ p) q)

-- a field that does not fit, after fields that fit
record IsFound (shape : List FieldKind) (before fs : List FieldView) (refusal : SegError) : Type 0 where
  passed : List FieldView
  field : FieldView
  after : List FieldView
  parts : fs ≡ passed ++ field ∷ after
  passed_fit : misfit_after shape before passed ≡ None
  misfit : misfit_at shape (before ++ passed) field ≡ Some refusal

found_here : (shape : List FieldKind) (before fs : List FieldView) (f : FieldView) (refusal : SegError) → misfit_at shape before f ≡ Some refusal → IsFound shape before (f ∷ fs) refusal
found_here shape before fs f refusal is = record { passed = []; field = f; after = fs; parts = refl; passed_fit = refl; misfit = rw (append-nil before) is }

found_later : (shape : List FieldKind) (before fs : List FieldView) (f : FieldView) (refusal : SegError) → misfit_at shape before f ≡ None → IsFound shape (before ++ f ∷ []) fs refusal → IsFound shape before (f ∷ fs) refusal
found_later shape before fs f refusal fit later = record {
  passed = f ∷ later.passed;
  field = later.field;
  after = later.after;
  parts = ap (λ xs. f ∷ xs) later.parts;
  passed_fit = ap (λ o. option_or o (misfit_after shape (before ++ f ∷ []) later.passed)) fit ∙ later.passed_fit;
  misfit = subst (λ xs. misfit_at shape xs later.field ≡ Some refusal) (shifted before later.passed f) later.misfit;
}

-- the option that has the value
or_some : {A : Type 0} (a b : Option A) (x : A) → option_or a b ≡ Some x → (a ≡ Some x) ⊎ ((a ≡ None) × (b ≡ Some x))
or_some None b x e = inr (refl, e)
or_some (Some y) b x e = inl e

found : (shape : List FieldKind) (before fs : List FieldView) (refusal : SegError) → misfit_after shape before fs ≡ Some refusal → IsFound shape before fs refusal
found shape before [] refusal e = absurd cc
found shape before (f ∷ fs) refusal e = ⊎_elim
    (λ here. found_here shape before fs f refusal here)
    (λ later. found_later shape before fs f refusal later.0 (found shape (before ++ f ∷ []) fs refusal later.1))
    (or_some (misfit_at shape before f) (misfit_after shape (before ++ f ∷ []) fs) refusal e)

to_first : (shape : List FieldKind) (fs : List FieldView) (refusal : SegError) → first_misfit shape fs ≡ Some refusal → HasFirstMisfit shape fs refusal
to_first shape fs refusal e =
    let at = found shape [] fs refusal e in
    record {
      before = at.passed;
      field = at.field;
      after = at.after;
      parts = at.parts;
      before_fit = (all_fit-iff shape at.passed).0 at.passed_fit;
      misfit = at.misfit;
    }

from_first : (shape : List FieldKind) (fs : List FieldView) (refusal : SegError) → HasFirstMisfit shape fs refusal → first_misfit shape fs ≡ Some refusal
from_first shape fs refusal has =
    let none : misfit_after shape [] has.before ≡ None = (all_fit-iff shape has.before).1 has.before_fit in
    ap (misfit_after shape []) has.parts
    ∙ misfit_after-append shape [] has.before (has.field ∷ has.after)
    ∙ ap (λ o. option_or o (misfit_after shape has.before (has.field ∷ has.after))) none
    ∙ ap (λ o. option_or o (misfit_after shape (has.before ++ has.field ∷ []) has.after)) has.misfit

pub first_misfit-iff : (shape : List FieldKind) (fs : List FieldView) (refusal : SegError) → (first_misfit shape fs ≡ Some refusal) ↔ HasFirstMisfit shape fs refusal
first_misfit-iff shape fs refusal = (to_first shape fs refusal, from_first shape fs refusal)
