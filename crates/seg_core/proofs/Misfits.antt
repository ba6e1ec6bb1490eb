-- The checks that all messages share, and a pass over a message that keeps the first misfit.
use Rattle.std.proofs.Common.{◌≡◌, ⊎_elim, ℕ, ◌<◌, ◌≤◌, true, false, List, [], ◌∷◌, ◌++◌, length, drop, Option, Some, None, Ok, is_some, slice_set, Bor, sym, ap, subst, ◌∙◌, refl, append_assoc, append-nil, arith}
use Rattle.std.specs.Option.{option_or}
use Rattle.std.proofs.lemmas.Bool.{cases_lt, false≢true}
use Rattle.std.proofs.lemmas.List.{get_or_past}
use Rattle.pw_wire.specs.Field as wire
use Rattle.pw_wire.specs.Field.{FieldView}
use Rattle.pw_wire.specs.View.{HasFirstField}
use Rattle.pw_wire.specs.Fields.{fields, fault}
use Rattle.seg_core.specs.declared.error.SegError.{SegError}
use Rattle.seg_core.specs.declared.error.SegError.TheVariants as error
use Rattle.seg_core.specs.declared.field_kind.FieldKind.{FieldKind}
use Rattle.seg_core.specs.declared.field_kind.FieldKind.TheVariants as kind
use Rattle.pw_wire.proofs.Exports.{fields-nil, fault-nil}
use Rattle.seg_core.specs.Message.{field_kind, suits, is_single, last_bytes_field, misfit_at, misfit_after, message_fields}
use Rattle.seg_core.specs.Slots.{AreNoted, IsMidway, TakesBytes}
use Rattle.seg_core.proofs.Noting.{AreNoted-varint, AreNoted-bytes}

-- A number that a shape knows as a single message is one of its numbers.
pub single-known : (shape : List FieldKind) (n : ℕ) → length shape ≤ 7 → is_single (field_kind shape n) ≡ true → n < 7
single-known shape n short single = ⊎_elim
    (λ lt. omega arith)
    (λ past. absurd (false≢true (sym (ap is_single (get_or_past shape n kind.Unknown past)) ∙ single)))
    (cases_lt n (length shape))

pub misfit-unsuited : (shape : List FieldKind) (before : List FieldView) (f : FieldView) → suits (field_kind shape f.number) f.value ≡ false → Some error.KindOfField ≡ misfit_at shape before f
misfit-unsuited shape before f unsuited = rw unsuited refl

pub misfit-repeated : (shape : List FieldKind) (before : List FieldView) (f : FieldView) → suits (field_kind shape f.number) f.value ≡ true → is_single (field_kind shape f.number) ≡ true → is_some (last_bytes_field f.number before) ≡ true → Some error.RepeatedMessage ≡ misfit_at shape before f
misfit-repeated shape before f suited single there = rw (suited, single, there) refl

pub misfit-first : (shape : List FieldKind) (before : List FieldView) (f : FieldView) → suits (field_kind shape f.number) f.value ≡ true → is_single (field_kind shape f.number) ≡ true → is_some (last_bytes_field f.number before) ≡ false → None ≡ misfit_at shape before f
misfit-first shape before f suited single there = rw (suited, single, there) refl

pub misfit-many : (shape : List FieldKind) (before : List FieldView) (f : FieldView) → suits (field_kind shape f.number) f.value ≡ true → is_single (field_kind shape f.number) ≡ false → None ≡ misfit_at shape before f
misfit-many shape before f suited single = rw (suited, single) refl

-- ---- the pass

option_or-assoc : {A : Type 0} → (a b c : Option A) → option_or a (option_or b c) ≡ option_or (option_or a b) c
option_or-assoc None b c = refl
option_or-assoc (Some x) b c = refl

pub IsMidway-step : (shape : List FieldKind) (message rest : List ℕ) (misfit found : Option SegError) (ns ns' : List ℕ) (ts ts' : List (Option (Bor (List ℕ)))) (f : FieldView) (used : ℕ)
    → IsMidway shape message rest misfit ns ts
    → fields rest ≡ f ∷ fields (drop used rest) → fault rest ≡ fault (drop used rest)
    → ((before : List FieldView) → AreNoted before ns ts → found ≡ misfit_at shape before f)
    → ((before : List FieldView) → AreNoted before ns ts → AreNoted (before ++ f ∷ []) ns' ts')
    → IsMidway shape message (drop used rest) (option_or misfit found) ns' ts'
IsMidway-step shape message rest misfit found ns ns' ts ts' f used m these same judged note = record {
  before = m.before ++ f ∷ [];
  parts = m.parts ∙ ap (λ fs. m.before ++ fs) these ∙ sym (append_assoc m.before (f ∷ []) (fields (drop used rest)));
  same_fault = m.same_fault ∙ same;
  noted = note m.before m.noted;
  misfits =
      m.misfits
      ∙ ap (λ fs. option_or misfit (misfit_after shape m.before fs)) these
      ∙ option_or-assoc misfit (misfit_at shape m.before f) (misfit_after shape (m.before ++ f ∷ []) (fields (drop used rest)))
      ∙ ap (λ e. option_or (option_or misfit e) (misfit_after shape (m.before ++ f ∷ []) (fields (drop used rest)))) (sym (judged m.before m.noted));
}

-- ---- a pass that has met no misfit

-- One more number, which fits.
pub IsMidway-number : (shape : List FieldKind) (message rest ns : List ℕ) (ts : List (Option (Bor (List ℕ)))) (k n used : ℕ) → field_kind shape k ≡ kind.Number → k < 7 → length ns ≡ 7
    → HasFirstField rest (wire.varint_field k n) used
    → IsMidway shape message rest None ns ts → IsMidway shape message (drop used rest) None (slice_set ns k n) ts
IsMidway-number shape message rest ns ts k n used number small width step m =
    IsMidway-step shape message rest None None ns (slice_set ns k n) ts ts (wire.varint_field k n) used m step.fields_are step.fault_is
    (λ before noted. rw number refl)
    (λ before noted. AreNoted-varint before (wire.varint_field k n) ns ts n refl small width noted)

-- One more byte string, which fits.
pub IsMidway-bytes : (shape : List FieldKind) (message rest ns : List ℕ) (ts : List (Option (Bor (List ℕ)))) (k used : ℕ) (s : Bor (List ℕ)) → TakesBytes shape k ns ts → k < 7
    → HasFirstField rest (wire.bytes_field k s.now) used
    → IsMidway shape message rest None ns ts → IsMidway shape message (drop used rest) None ns (slice_set ts k (Some s))
IsMidway-bytes shape message rest ns ts k used s fit small step m =
    IsMidway-step shape message rest None None ns ns ts (slice_set ts k (Some s)) (wire.bytes_field k s.now) used m step.fields_are step.fault_is
    (λ before noted. sym (fit before s.now noted))
    (λ before noted. AreNoted-bytes before (wire.bytes_field k s.now) ns ts s refl small noted)

-- Before the first field.
pub IsMidway-start : (shape : List FieldKind) (message : List ℕ) (ns : List ℕ) (ts : List (Option (Bor (List ℕ)))) → AreNoted [] ns ts → IsMidway shape message message None ns ts
IsMidway-start shape message ns ts noted = record { before = []; parts = refl; same_fault = refl; noted = noted; misfits = refl }

-- After the last one.
pub all_noted : (shape : List FieldKind) (message rest : List ℕ) (ns : List ℕ) (ts : List (Option (Bor (List ℕ)))) → IsMidway shape message rest None ns ts → rest ≡ [] → AreNoted (fields message) ns ts
all_noted shape message rest ns ts m none =
    subst (λ fs. AreNoted fs ns ts) (sym (m.parts ∙ ap (λ bytes. m.before ++ fields bytes) none ∙ ap (λ fs. m.before ++ fs) fields-nil ∙ append-nil m.before)) m.noted

pub all_fit : (shape : List FieldKind) (message rest : List ℕ) (ns : List ℕ) (ts : List (Option (Bor (List ℕ)))) → IsMidway shape message rest None ns ts → rest ≡ [] → message_fields shape message ≡ Ok (fields message)
unfolding message_fields
all_fit shape message rest ns ts m none =
    let no_fault : fault message ≡ None = m.same_fault ∙ ap fault none ∙ fault-nil in
    let no_misfit : misfit_after shape [] (fields message) ≡ None = m.misfits ∙ ap (λ bytes. misfit_after shape m.before (fields bytes)) none ∙ ap (misfit_after shape m.before) fields-nil in
    rw (no_fault, no_misfit) refl
