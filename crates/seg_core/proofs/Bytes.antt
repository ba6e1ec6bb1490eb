-- Lists of bytes: the parts of a message of bytes are bytes, and its numbers are below 2^64.
use Rattle.std.proofs.Common.{◌≡◌, ℕ, zero, suc, ◌+◌, ◌*◌, ◌<◌, ◌^◌, Bool, true, false, List, [], ◌∷◌, ◌++◌, drop, length, Result, Ok, Option, Some, None, refl, subst, arith}
use Rattle.std.specs.Prelude.{◌==◌, if◌then◌else◌, unwrap_or}
use Rattle.std.specs.List.{AllByRecursion}
use Rattle.std.specs.Option.{ForSome, option_or, option_map}
use Rattle.std.proofs.lemmas.List.{get_or-drop}
use Rattle.pw_wire.specs.Decoding.{IsBytes}
use Rattle.pw_wire.specs.Varint.{EncodesNumber, varint_encoding}
use Rattle.pw_wire.specs.Field.{FieldValue, Varint, Fixed64, Bytes, Fixed32, FieldView, IsValue, bytes_field_encoding}
use Rattle.pw_wire.specs.Fields.{AreFields, fields, fault}
use Rattle.pw_wire.proofs.Exports.{whole, varint_encoding_is}
use Rattle.seg_core.specs.declared.error.SegError.{SegError}
use Rattle.seg_core.specs.declared.error.SegError.TheVariants as error
use Rattle.seg_core.specs.declared.field_kind.FieldKind.{FieldKind}
use Rattle.seg_core.specs.Steps.{◌>>=◌, unless_refused}
use Rattle.seg_core.specs.Message.{message_fields, misfit_after, varint_in, bytes_of_value, number_fields, number_field, bytes_fields, last_bytes_field, bytes_field_or_empty, last_of}

-- ---- lists of bytes

pub bytes-nil : IsBytes []
bytes-nil i = omega arith

pub bytes-append : (xs ys : List ℕ) → IsBytes xs → IsBytes ys → IsBytes (xs ++ ys)
bytes-append [] ys left right i = right i
bytes-append (x ∷ xs) ys left right zero = left 0
bytes-append (x ∷ xs) ys left right (suc i) = bytes-append xs ys (λ i. left (suc i)) right i

-- the parts of a list of bytes are bytes
bytes-left : (xs ys : List ℕ) → IsBytes (xs ++ ys) → IsBytes xs
bytes-left [] ys are i = omega arith
bytes-left (x ∷ xs) ys are zero = are 0
bytes-left (x ∷ xs) ys are (suc i) = bytes-left xs ys (λ i. are (suc i)) i

bytes-right : (xs ys : List ℕ) → IsBytes (xs ++ ys) → IsBytes ys
bytes-right [] ys are = are
bytes-right (x ∷ xs) ys are = bytes-right xs ys (λ i. are (suc i))

bytes-drop : (n : ℕ) (xs : List ℕ) → IsBytes xs → IsBytes (drop n xs)
bytes-drop n xs are i = rw get_or-drop (are (n + i))

-- ---- the fields of bytes

-- a number below 2^64, or bytes
abbrev pub ValueFits : FieldValue → Type 0
ValueFits (Varint n) = n < 2 ^ 64
ValueFits (Fixed64 n) = Unit {0}
ValueFits (Bytes bytes) = IsBytes bytes
ValueFits (Fixed32 n) = Unit {0}

abbrev pub AllValuesFit : List FieldView → Type 0
AllValuesFit fs = AllByRecursion (λ f. ValueFits f.value) fs

value_fits : (content : List ℕ) (value : FieldValue) → IsBytes content → IsValue content value → ValueFits value
value_fits content (Varint n) are is = is.fits
value_fits content (Fixed64 n) are is = tt
value_fits content (Bytes bytes) are is = bytes-right is.front bytes (subst IsBytes is.parts are)
value_fits content (Fixed32 n) are is = tt

fields_fit : (fs : List FieldView) (bytes : List ℕ) → IsBytes bytes → AreFields bytes fs → AllValuesFit fs
fields_fit [] bytes are begins = tt
fields_fit (f ∷ fs) bytes are begins =
    let is = begins.field in
    let behind : IsBytes (is.content ++ is.rest) = bytes-right is.tag (is.content ++ is.rest) (subst IsBytes is.parts are) in
    (value_fits is.content f.value (bytes-left is.content is.rest behind) is.content_is, fields_fit fs (drop begins.len bytes) (bytes-drop begins.len bytes are) begins.others)

-- a message that has passed its checks has no fault
faultless : {B : Type 0} (found misfit : Option SegError) (gs : List FieldView) (f : List FieldView → Result B SegError) (y : B)
    → ((unless_refused found >>= λ _. unless_refused misfit >>= λ _. Ok gs) >>= f) ≡ Ok y → found ≡ None
faultless None misfit gs f y e = refl
faultless (Some d) misfit gs f y e = absurd cc

none_mapped : {A B : Type 0} (f : A → B) (o : Option A) → option_map f o ≡ None → o ≡ None
none_mapped f None e = refl
none_mapped f (Some x) e = absurd cc

-- the fields of bytes that passed the checks
pub message_fields-are : {B : Type 0} (shape : List FieldKind) (bytes : List ℕ) (f : List FieldView → Result B SegError) (y : B)
    → IsBytes bytes → (message_fields shape bytes >>= f) ≡ Ok y → AreFields bytes (fields bytes)
unfolding message_fields
message_fields-are shape bytes f y are e =
    let none = none_mapped error.Wire (fault bytes) (faultless (option_map error.Wire (fault bytes)) (misfit_after shape [] (fields bytes)) (fields bytes) f y e) in
    (whole bytes (fields bytes) are).1 (none, refl)

pub message_fields-fit : {B : Type 0} (shape : List FieldKind) (bytes : List ℕ) (f : List FieldView → Result B SegError) (y : B)
    → IsBytes bytes → (message_fields shape bytes >>= f) ≡ Ok y → AllValuesFit (fields bytes)
message_fields-fit shape bytes f y are e = fields_fit (fields bytes) bytes are (message_fields-are shape bytes f y are e)

-- ---- the values under a number

abbrev AllNumbers : List ℕ → Type 0
AllNumbers ns = AllByRecursion (λ n. n < 2 ^ 64) ns

abbrev AllBytes : List (List ℕ) → Type 0
AllBytes ts = AllByRecursion IsBytes ts

one_number : (same : Bool) (value : FieldValue) (ns : List ℕ) → ValueFits value → AllNumbers ns → AllNumbers ((if same then varint_in value else []) ++ ns)
one_number false value ns fits all = all
one_number true (Varint n) ns fits all = (fits, all)
one_number true (Fixed64 n) ns fits all = all
one_number true (Bytes t) ns fits all = all
one_number true (Fixed32 n) ns fits all = all

number_fields-fit : (k : ℕ) (fs : List FieldView) → AllValuesFit fs → AllNumbers (number_fields k fs)
number_fields-fit k [] fits = tt
number_fields-fit k (f ∷ fs) fits = one_number (f.number == k) f.value (number_fields k fs) fits.0 (number_fields-fit k fs fits.1)

one_bytes : (same : Bool) (value : FieldValue) (ts : List (List ℕ)) → ValueFits value → AllBytes ts → AllBytes ((if same then bytes_of_value value else []) ++ ts)
one_bytes false value ts fits all = all
one_bytes true (Varint n) ts fits all = all
one_bytes true (Fixed64 n) ts fits all = all
one_bytes true (Bytes t) ts fits all = (fits, all)
one_bytes true (Fixed32 n) ts fits all = all

-- all byte strings under a number are bytes
pub bytes_fields-IsBytes : (k : ℕ) (fs : List FieldView) → AllValuesFit fs → AllBytes (bytes_fields k fs)
bytes_fields-IsBytes k [] fits = tt
bytes_fields-IsBytes k (f ∷ fs) fits = one_bytes (f.number == k) f.value (bytes_fields k fs) fits.0 (bytes_fields-IsBytes k fs fits.1)

last_or : {A : Type 0} (P : A → Type 0) (o : Option A) (x : A) → ForSome o P → P x → ForSome (option_or o (Some x)) P
last_or P None x later first y is = let same : x ≡ y = cc in subst P same first
last_or P (Some z) x later first y is = later y is

last-all : {A : Type 0} (P : A → Type 0) (xs : List A) → AllByRecursion P xs → ForSome (last_of xs) P
last-all P [] all = λ y is. absurd cc
last-all P (x ∷ xs) all = last_or P (last_of xs) x (last-all P xs all.1) all.0

or_zero : (o : Option ℕ) → ForSome o (λ n. n < 2 ^ 64) → unwrap_or o 0 < 2 ^ 64
or_zero None fits = omega arith
or_zero (Some n) fits = fits n refl

or_empty : (o : Option (List ℕ)) → ForSome o IsBytes → IsBytes (unwrap_or o [])
or_empty None are = bytes-nil
or_empty (Some t) are = are t refl

pub number_field-fits : (k : ℕ) (fs : List FieldView) → AllValuesFit fs → number_field k fs < 2 ^ 64
number_field-fits k fs fits = or_zero (last_of (number_fields k fs)) (last-all (λ n. n < 2 ^ 64) (number_fields k fs) (number_fields-fit k fs fits))

pub bytes_field-IsBytes : (k : ℕ) (fs : List FieldView) → AllValuesFit fs → ForSome (last_bytes_field k fs) IsBytes
bytes_field-IsBytes k fs fits = last-all IsBytes (bytes_fields k fs) (bytes_fields-IsBytes k fs fits)

pub bytes_field_or_empty-IsBytes : (k : ℕ) (fs : List FieldView) → AllValuesFit fs → IsBytes (bytes_field_or_empty k fs)
bytes_field_or_empty-IsBytes k fs fits = or_empty (last_bytes_field k fs) (bytes_field-IsBytes k fs fits)

-- ---- encodings are bytes

number_bytes : (bytes : List ℕ) (n : ℕ) → EncodesNumber bytes n → IsBytes bytes
number_bytes [] n encodes i = absurd encodes
number_bytes (b ∷ []) n encodes zero = let lt = encodes.0 in omega arith
number_bytes (b ∷ []) n encodes (suc i) = omega arith
number_bytes (b ∷ c ∷ bytes) n encodes zero = let is = encodes.byte_is in let lt = encodes.seven_bits in omega arith
number_bytes (b ∷ c ∷ bytes) n encodes (suc i) = number_bytes (c ∷ bytes) encodes.high encodes.above i

varint-bytes : (n : ℕ) → n < 2 ^ 64 → IsBytes (varint_encoding n)
varint-bytes n lt = number_bytes (varint_encoding n) n (varint_encoding_is n lt).encoded

pub field-bytes : (k : ℕ) (bytes : List ℕ) → k < 15 → length bytes < 2 ^ 64 → IsBytes bytes → IsBytes (bytes_field_encoding k bytes)
unfolding bytes_field_encoding
field-bytes k bytes lt fits are =
    bytes-append (varint_encoding (k * 8 + 2)) (varint_encoding (length bytes) ++ bytes) (varint-bytes (k * 8 + 2) (omega arith))
    (bytes-append (varint_encoding (length bytes)) bytes (varint-bytes (length bytes) fits) are)
