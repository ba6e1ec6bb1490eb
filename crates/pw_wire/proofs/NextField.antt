-- What one call of `next_field` found, by the field that is read there.
use Rattle.std.proofs.Common.{◌≡◌, ◌≢◌, ◌↔◌, ℕ, Bool, true, false, eqb, List, [], length, Option, Some, None, Result, Ok, Err, sym, ap, subst, ◌∙◌}
use Rattle.std.proofs.lemmas.Bool.{eqb-true, eqb-false}
use Rattle.std.proofs.lemmas.List.{nil_from_length}
use Rattle.pw_wire.specs.declared.error.WireError.{WireError}
use Rattle.pw_wire.specs.declared.error.WireError.TheVariants.{Truncated}
use Rattle.pw_wire.specs.declared.field.Field.{Field}
use Rattle.pw_wire.specs.Decoding.{IsBytes}
use Rattle.pw_wire.specs.Field.{FieldValue, FieldView, IsField, IsFieldFault, field_at}
use Rattle.pw_wire.specs.Fields.{fields, fault}
use Rattle.pw_wire.specs.View.{value_view, field_view, Finds, HasFirstField, Steps}
use Rattle.pw_wire.proofs.Varints.{ok_is, err_is}
use Rattle.pw_wire.proofs.FieldLemmas.{field_again, field_took, fault_again, fault_is}
use Rattle.pw_wire.proofs.Messages.{fields-nil, fault-nil, nothing_read, fields-read, fault-read, fields-failed, fault-failed, not_nothing}

-- the call returns what is read at the front
abbrev pub Answers : List ℕ → Result (Option (Field × ℕ)) WireError → Type 0
Answers bytes (Ok None) = bytes ≡ []
Answers bytes (Ok (Some next)) = field_at bytes ≡ Ok (field_view next.0, next.1)
Answers bytes (Err e) = (bytes ≢ []) × (field_at bytes ≡ Err e)

-- the test for empty bytes is exact
pub is_nothing : (bytes : List ℕ) (b : Bool) → b ≡ eqb (length bytes) 0 → b ≡ true → bytes ≡ []
is_nothing bytes b e true_is = nil_from_length bytes (eqb-true (length bytes) 0 (sym e ∙ true_is))

pub is_something : (bytes : List ℕ) (b : Bool) → b ≡ eqb (length bytes) 0 → b ≡ false → bytes ≢ []
is_something bytes b e false_is none = eqb-false (length bytes) 0 (sym e ∙ false_is) (ap length none)

-- the call answers the fault that was found
pub answers_fault : (bytes : List ℕ) (r : Result (Option (Field × ℕ)) WireError) (x d : WireError) → bytes ≢ [] → r ≡ Err x → x ≡ d → Err d ≡ field_at bytes → Answers bytes r
answers_fault bytes r x d some given same failed =
    subst (Answers bytes) (sym given) (some, sym failed ∙ ap (λ (y : WireError). Err y) (sym same))

-- empty bytes begin with no field
no_field : (bytes : List ℕ) (number : ℕ) (value : FieldValue) (len : ℕ) → bytes ≡ [] → IsField bytes number value len → ⊥
no_field bytes number value len none is =
    let read = field_again bytes number value len is in
    let nil : field_at bytes ≡ Err Truncated = ap field_at none ∙ nothing_read in
    cc

-- where a field is read, there are bytes
pub some_read : (bytes : List ℕ) (next : Field × ℕ) → field_at bytes ≡ Ok (field_view next.0, next.1) → bytes ≢ []
some_read bytes next read none =
    let nil : field_at bytes ≡ Err Truncated = ap field_at none ∙ nothing_read in
    cc

pub finds : (bytes : List ℕ) (r : Result (Option (Field × ℕ)) WireError) → IsBytes bytes → Answers bytes r → (number : ℕ) (value : FieldValue) (len : ℕ) → (Finds r number value len) ↔ (IsField bytes number value len)
finds bytes (Ok None) fits none number value len = (λ found. absurd found, λ is. no_field bytes number value len none is)
finds bytes (Ok (Some next)) fits read number value len = (
  λ found. subst (λ (n : ℕ). IsField bytes n value len) found.number_is (subst (λ (v : FieldValue). IsField bytes next.0.number v len) found.value_is (subst (IsField bytes next.0.number (value_view next.0.value)) found.len_is ((field_took bytes (field_view next.0, next.1) read).is fits))),
  λ is.
      let same = ok_is (field_view next.0, next.1) (record { number = number; value = value }, len) (sym read ∙ field_again bytes number value len is) in
      record { number_is = ap (λ (p : FieldView × ℕ). p.0.number) same; value_is = ap (λ (p : FieldView × ℕ). p.0.value) same; len_is = ap (λ (p : FieldView × ℕ). p.1) same },
)
finds bytes (Err e) fits failed number value len =
    (λ found. absurd found, λ is. let read = field_again bytes number value len is in let wrong = failed.1 in absurd cc)

pub fails : (bytes : List ℕ) (r : Result (Option (Field × ℕ)) WireError) → IsBytes bytes → Answers bytes r → (e : WireError) → (r ≡ Err e) ↔ (IsFieldFault bytes e)
fails bytes (Ok None) fits none e = (λ is. absurd cc, λ wrong. absurd (not_nothing bytes e wrong none))
fails bytes (Ok (Some next)) fits read e = (λ is. absurd cc, λ wrong. let failed = fault_again bytes e wrong in absurd cc)
fails bytes (Err d) fits failed e = (
  λ is. fault_is bytes e fits failed.0 (failed.1 ∙ ap (λ (x : WireError). Err x) (err_is (Option (Field × ℕ)) d e is)),
  λ wrong. ap (λ (x : WireError). Err x) (err_is (FieldView × ℕ) d e (sym failed.1 ∙ fault_again bytes e wrong)),
)

-- what a field that was read shows of the whole message
pub step : (bytes : List ℕ) (f : FieldView) (len : ℕ) → IsBytes bytes → field_at bytes ≡ Ok (f, len) → HasFirstField bytes f len
step bytes f len fits read =
    let took = field_took bytes (f, len) read in
    record { positive = took.positive; within = took.within; fields_are = fields-read bytes f len read; fault_is = fault-read bytes f len read }

pub steps : (bytes : List ℕ) (r : Result (Option (Field × ℕ)) WireError) → IsBytes bytes → Answers bytes r → Steps bytes r
steps bytes (Ok None) fits none = record { nothing = none; no_fields = ap fields none ∙ fields-nil; no_fault = ap fault none ∙ fault-nil }
steps bytes (Ok (Some next)) fits read = step bytes (field_view next.0) next.1 fits read
steps bytes (Err e) fits failed = (fields-failed bytes e failed.0 failed.1, fault-failed bytes e failed.0 failed.1)
