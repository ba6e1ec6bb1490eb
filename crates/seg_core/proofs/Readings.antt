-- The steps that a reading with a value went through.
use Rattle.std.proofs.Common.{◌≡◌, ℕ, ◌≤◌, Bool, true, false, List, [], Result, Ok, Err, Option, Some, None, refl, sym, ap, subst}
use Rattle.std.specs.Prelude.{nat_le, ok_or, if◌then◌else◌, IfOk}
use Rattle.std.specs.Option.{option_map}
use Rattle.std.proofs.lemmas.Bool.{leb-true}
use Rattle.pw_wire.specs.Field.{FieldView}
use Rattle.pw_wire.specs.Fields.{fields, fault}
use Rattle.seg_core.specs.declared.error.SegError.{SegError}
use Rattle.seg_core.specs.declared.error.SegError.TheVariants as error
use Rattle.seg_core.specs.declared.field_kind.FieldKind.{FieldKind}
use Rattle.seg_core.specs.Steps.{◌>>=◌, unless_refused, must_hold, at_most, GivesSegment}
use Rattle.seg_core.specs.Message.{message_fields, misfit_after, required_message, last_bytes_field}

-- the value of a step that did not fail
pub step_ok : {A B : Type 0} (r : Result A SegError) (f : A → Result B SegError) (y : B) → (r >>= f) ≡ Ok y → (x : A) × (r ≡ Ok x) × (f x ≡ Ok y)
step_ok (Ok x) f y e = (x, refl, e)
step_ok (Err d) f y e = absurd cc

-- two results with one value
pub ok_is : {A : Type 0} (x y : A) → (let r : Result A SegError = Ok x in r) ≡ Ok y → x ≡ y
ok_is x y e = cc

-- a test after which the reading continued
pub check_ok : (holds : Bool) (reason : SegError) (u : Unit {0}) → must_hold holds reason ≡ Ok u → holds ≡ true
check_ok true reason u e = refl
check_ok false reason u e = absurd cc

-- a number that was within its limit
within_limit : (b : Bool) (limit n m : ℕ) → nat_le n limit ≡ b → (if b then Ok n else Err error.Range) ≡ Ok m → (m ≡ n) × (n ≤ limit)
within_limit true limit n m was e = (sym (ok_is n m e), leb-true n limit was)
within_limit false limit n m was e = absurd cc

pub at_most_ok : (limit n m : ℕ) → at_most limit n ≡ Ok m → (m ≡ n) × (n ≤ limit)
at_most_ok limit n m e = within_limit (nat_le n limit) limit n m refl e

passed : (fault misfit : Option SegError) (gs fs : List FieldView) → (unless_refused fault >>= λ _. unless_refused misfit >>= λ _. Ok gs) ≡ Ok fs → fs ≡ gs
passed None None gs fs e = sym (ok_is gs fs e)
passed None (Some d) gs fs e = absurd cc
passed (Some d) misfit gs fs e = absurd cc

-- the fields of a message that passed its checks
pub message_fields_ok : (shape : List FieldKind) (bytes : List ℕ) (fs : List FieldView) → message_fields shape bytes ≡ Ok fs → fs ≡ fields bytes
unfolding message_fields
message_fields_ok shape bytes fs e = passed (option_map error.Wire (fault bytes)) (misfit_after shape [] (fields bytes)) (fields bytes) fs e

there_ok : (o : Option (List ℕ)) (t : List ℕ) → ok_or o error.MissingField ≡ Ok t → o ≡ Some t
there_ok (Some s) t e = ap (λ x. Some x) (ok_is s t e)
there_ok None t e = absurd cc

-- a required message that was present
pub required_ok : (k : ℕ) (fs : List FieldView) (t : List ℕ) → required_message k fs ≡ Ok t → last_bytes_field k fs ≡ Some t
required_ok k fs t e = there_ok (last_bytes_field k fs) t e

-- ---- one step of a reading that gave a value

pub after_message_fields : {B : Type 0} (shape : List FieldKind) (bytes : List ℕ) (f : List FieldView → Result B SegError) (y : B) → (message_fields shape bytes >>= f) ≡ Ok y → f (fields bytes) ≡ Ok y
after_message_fields shape bytes f y e =
    let step = step_ok (message_fields shape bytes) f y e in
    subst (λ fs. f fs ≡ Ok y) (message_fields_ok shape bytes step.0 step.1) step.2

pub after_check : {B : Type 0} (holds : Bool) (reason : SegError) (f : Unit {0} → Result B SegError) (y : B) → (must_hold holds reason >>= f) ≡ Ok y → (holds ≡ true) × (f tt ≡ Ok y)
after_check true reason f y e = (refl, e)
after_check false reason f y e = absurd cc

pub after_required : {B : Type 0} (k : ℕ) (fs : List FieldView) (f : List ℕ → Result B SegError) (y : B) → (required_message k fs >>= f) ≡ Ok y → (t : List ℕ) × (last_bytes_field k fs ≡ Some t) × (f t ≡ Ok y)
after_required k fs f y e =
    let step = step_ok (required_message k fs) f y e in
    (step.0, required_ok k fs step.0 step.1, step.2)

pub after_at_most : {B : Type 0} (limit n : ℕ) (f : ℕ → Result B SegError) (y : B) → (at_most limit n >>= f) ≡ Ok y → (n ≤ limit) × (f n ≡ Ok y)
after_at_most limit n f y e =
    let step = step_ok (at_most limit n) f y e in
    let is = at_most_ok limit n step.0 step.1 in
    (is.1, subst (λ m. f m ≡ Ok y) is.0 step.2)

-- a property of each value that a reading gives holds for the value that a call gives
pub Gives-IfOk : {X Y : Type 0} (view : X → Y) (P : Y → Type 0) (r : Result X SegError) (reading : Result Y SegError)
    → ((y : Y) → reading ≡ Ok y → P y) → GivesSegment view r reading → IfOk r (λ x. P (view x))
Gives-IfOk view P (Ok x) reading holds gives = holds (view x) gives
Gives-IfOk view P (Err e) reading holds gives = tt
