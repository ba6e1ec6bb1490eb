-- The refusals of the parts of a reading: no part is refused with `NoMemory`, and the parts up to
-- the entries, and the entries alone, are not refused for their path. For the readers of segments
-- and registrations, and the laws on decodings.
use Rattle.std.proofs.Common.{◌≡◌, ◌≢◌, ℕ, zero, suc, ◌+◌, Bool, true, false, List, [], ◌∷◌, ◌++◌, Result, Ok, Err, Option, Some, None, refl, sym, ap, ◌∙◌, arith}
use Rattle.std.specs.Prelude.{nat_le, nat_lt, ok_or, if◌then◌else◌, not, ◌&&◌, is_some}
use Rattle.std.proofs.lemmas.Bool.{false≢true, lt-ltb, ltb-true}
use Rattle.std.specs.Option.{option_map, option_or}
use Rattle.pw_wire.specs.declared.error.WireError.{WireError}
use Rattle.pw_wire.specs.Field.{FieldView}
use Rattle.pw_wire.specs.Fields.{fields, fault}
use Rattle.seg_core.specs.declared.error.SegError.{SegError}
use Rattle.seg_core.specs.declared.error.SegError.TheVariants.{NoMemory, Wire, KindOfField, RepeatedMessage, MissingField, Range, Chain, Loop, Entries, BadType, TooLarge}
use Rattle.seg_core.specs.declared.field_kind.FieldKind.{FieldKind}
use Rattle.seg_core.specs.Steps.{◌>>=◌, unless_refused, must_hold, at_most, each, result_map}
use Rattle.seg_core.specs.Message.{message_fields, field_kind, suits, is_single, misfit_at, misfit_after, required_message, last_bytes_field}
use Rattle.seg_core.specs.Segment.{info_decoding, segment_outline, segment_decoding}
use Rattle.seg_core.specs.Registration.{type_of, MapEntry, entry_rows, segments_decoding, new_type, map_entry_decoding, map_decoding, registration_outline, registration_decoding}
use Rattle.seg_core.specs.Request.{request_decoding}
use Rattle.seg_core.specs.declared.seg_type.SegType.TheVariants.{Up, Down, Core}
use Rattle.seg_core.specs.Entry.{hop_field_decoding, hop_entry_decoding, peer_entry_decoding, body_decoding, header_and_body_decoding, as_entry_decoding}

-- Refusals in three ranks: `NoMemory`, those of a path, and all others.
abbrev rank : SegError → ℕ
rank NoMemory = 0
rank (Wire e) = 2
rank KindOfField = 2
rank RepeatedMessage = 2
rank MissingField = 2
rank Range = 2
rank Chain = 1
rank Loop = 1
rank Entries = 2
rank BadType = 2
rank TooLarge = 2

-- a refusal other than `NoMemory` and those of a path
abbrev pub is_plain : SegError → Bool
is_plain e = nat_lt 1 (rank e)

abbrev pub is_not_memory : SegError → Bool
is_not_memory e = nat_lt 0 (rank e)

-- a reading whose possible refusals all pass a test
pub record FailsWithin {A : Type 0} (p : SegError → Bool) (r : Result A SegError) : Type 0 where
  pub passes : (e : SegError) → r ≡ Err e → p e ≡ true

-- ---- steps

pub given : {A : Type 0} (p : SegError → Bool) (x : A) → FailsWithin p (Ok x)
given p x = record { passes = λ e is. absurd cc }

pub step : {A B : Type 0} (p : SegError → Bool) (r : Result A SegError) (f : A → Result B SegError) → FailsWithin p r → ((x : A) → FailsWithin p (f x)) → FailsWithin p (r >>= f)
step p (Ok x) f first next = next x
step p (Err d) f first next = record { passes = λ e is. first.passes e (cc) }

pub tested : {A : Type 0} (p : SegError → Bool) (b : Bool) (x : A) (reason : SegError) → p reason ≡ true → FailsWithin p (if b then Ok x else Err reason)
tested p true x reason fine = given p x
tested p false x reason fine = record { passes = λ e is. ap p (let same : e ≡ reason = cc in same) ∙ fine }

pub each_within : {A B : Type 0} (p : SegError → Bool) (read : A → Result B SegError) (xs : List A) → ((x : A) → FailsWithin p (read x)) → FailsWithin p (each read xs)
each_within p read [] within = given p []
each_within p read (x ∷ xs) within = step p _ _ (within x) (λ first. step p _ _ (each_within p read xs within) (λ others. given p (first ∷ others)))

plain_check : (b : Bool) (reason : SegError) → is_plain reason ≡ true → FailsWithin is_plain (must_hold b reason)
plain_check b reason fine = tested is_plain b tt reason fine

plain_at_most : (limit n : ℕ) → FailsWithin is_plain (at_most limit n)
plain_at_most limit n = tested is_plain (nat_le n limit) n Range refl

-- ---- the fields of a message

-- the refusals that an option may have
abbrev OnlyPlain : Option SegError → Type 0
OnlyPlain o = (e : SegError) → o ≡ Some e → is_plain e ≡ true

only_plain_wire : (o : Option WireError) → OnlyPlain (option_map Wire o)
only_plain_wire None e is = absurd cc
only_plain_wire (Some w) e is = let same : Wire w ≡ e = cc in ap is_plain (sym same)

only_plain_tests : (suited repeated : Bool) → OnlyPlain (if not suited then Some KindOfField else if repeated then Some RepeatedMessage else None)
only_plain_tests false repeated e is = let same : KindOfField ≡ e = cc in ap is_plain (sym same)
only_plain_tests true true e is = let same : RepeatedMessage ≡ e = cc in ap is_plain (sym same)
only_plain_tests true false e is = absurd cc

only_plain_or : (a b : Option SegError) → OnlyPlain a → OnlyPlain b → OnlyPlain (option_or a b)
only_plain_or None b first second = second
only_plain_or (Some d) b first second = first

only_plain_misfit : (shape : List FieldKind) (before fs : List FieldView) → OnlyPlain (misfit_after shape before fs)
only_plain_misfit shape before [] = λ e is. absurd cc
only_plain_misfit shape before (f ∷ fs) =
    only_plain_or (misfit_at shape before f) (misfit_after shape (before ++ f ∷ []) fs)
    (only_plain_tests (suits (field_kind shape f.number) f.value) (is_single (field_kind shape f.number) && is_some (last_bytes_field f.number before)))
    (only_plain_misfit shape (before ++ f ∷ []) fs)

plain_unless : (o : Option SegError) → OnlyPlain o → FailsWithin is_plain (unless_refused o)
plain_unless None only = given is_plain tt
plain_unless (Some d) only = record { passes = λ e is. only e (let same : d ≡ e = cc in ap (λ x. Some x) same) }

pub plain_message_fields : (shape : List FieldKind) (bytes : List ℕ) → FailsWithin is_plain (message_fields shape bytes)
unfolding message_fields
plain_message_fields shape bytes =
    step is_plain (unless_refused (option_map Wire (fault bytes))) _ (plain_unless _ (only_plain_wire (fault bytes)))
    (λ _. step is_plain (unless_refused (misfit_after shape [] (fields bytes))) _ (plain_unless _ (only_plain_misfit shape [] (fields bytes))) (λ _. given is_plain (fields bytes)))

plain_there : (o : Option (List ℕ)) → FailsWithin is_plain (ok_or o MissingField)
plain_there None = record { passes = λ e is. let same : MissingField ≡ e = cc in ap is_plain (sym same) }
plain_there (Some t) = given is_plain t

plain_required_message : (k : ℕ) (fs : List FieldView) → FailsWithin is_plain (required_message k fs)
plain_required_message k fs = plain_there (last_bytes_field k fs)

-- ---- the parts of a segment

plain_hop_field : (message : List ℕ) → FailsWithin is_plain (hop_field_decoding message)
unfolding hop_field_decoding
plain_hop_field message = search (step, given, plain_message_fields, plain_at_most, plain_check) depth 16

plain_hop_entry : (message : List ℕ) → FailsWithin is_plain (hop_entry_decoding message)
unfolding hop_entry_decoding
plain_hop_entry message = search (step, plain_message_fields, plain_required_message, plain_at_most, plain_hop_field) depth 16

plain_peer_entry : (message : List ℕ) → FailsWithin is_plain (peer_entry_decoding message)
unfolding peer_entry_decoding
plain_peer_entry message = search (step, plain_message_fields, plain_required_message, plain_at_most, plain_hop_field) depth 16

plain_peers : (messages : List (List ℕ)) → FailsWithin is_plain (each peer_entry_decoding messages)
plain_peers messages = each_within is_plain peer_entry_decoding messages plain_peer_entry

plain_body : (message : List ℕ) → FailsWithin is_plain (body_decoding message)
unfolding body_decoding
plain_body message = search (step, given, plain_message_fields, plain_required_message, plain_at_most, plain_check, plain_hop_entry, plain_peers) depth 16

plain_header_and_body : (message : List ℕ) → FailsWithin is_plain (header_and_body_decoding message)
unfolding header_and_body_decoding
plain_header_and_body message = search (step, plain_message_fields, plain_body) depth 16

pub plain_as_entry : (message : List ℕ) → FailsWithin is_plain (as_entry_decoding message)
unfolding as_entry_decoding
plain_as_entry message = search (step, given, plain_message_fields, plain_required_message, plain_header_and_body) depth 16

pub plain_info : (message : List ℕ) → FailsWithin is_plain (info_decoding message)
unfolding info_decoding
plain_info message = search (step, given, plain_message_fields, plain_at_most) depth 16

-- ---- the parts that are checked before memory is taken

pub plain_segment_outline : (message : List ℕ) → FailsWithin is_plain (segment_outline message)
unfolding segment_outline
plain_segment_outline message = search (step, given, plain_message_fields, plain_check, plain_info) depth 16

pub plain_registration_outline : (message : List ℕ) → FailsWithin is_plain (registration_outline message)
unfolding registration_outline
plain_registration_outline message = search (step, given, plain_message_fields, plain_check) depth 16

-- ---- `NoMemory`

-- a plain refusal is not `NoMemory`
pub never_memory : {A : Type 0} (r : Result A SegError) (e : SegError) → FailsWithin is_plain r → r ≡ Err e → e ≢ NoMemory
never_memory r e within is memory = false≢true (sym (ap is_plain memory) ∙ within.passes e is)

-- ---- whole messages

plain_not_memory : (e : SegError) → is_plain e ≡ true → is_not_memory e ≡ true
plain_not_memory e plain = lt-ltb 0 (rank e) (omega (arith, ltb-true 1 (rank e) plain))

weaker : {A : Type 0} (r : Result A SegError) → FailsWithin is_plain r → FailsWithin is_not_memory r
weaker r within = record { passes = λ e is. plain_not_memory e (within.passes e is) }

within_check : (b : Bool) (reason : SegError) → is_not_memory reason ≡ true → FailsWithin is_not_memory (must_hold b reason)
within_check b reason fine = tested is_not_memory b tt reason fine

within_entries : (messages : List (List ℕ)) → FailsWithin is_not_memory (each as_entry_decoding messages)
within_entries messages = weaker _ (each_within is_plain as_entry_decoding messages plain_as_entry)

within_outline : (message : List ℕ) → FailsWithin is_not_memory (segment_outline message)
within_outline message = weaker _ (plain_segment_outline message)

pub within_segment : (message : List ℕ) → FailsWithin is_not_memory (segment_decoding message)
unfolding segment_decoding
within_segment message = search (step, given, within_outline, within_entries, within_check) depth 16

within_segments : (count : ℕ) (messages : List (List ℕ)) → FailsWithin is_not_memory (segments_decoding count messages)
unfolding segments_decoding
within_segments count [] = given is_not_memory []
within_segments count (m ∷ ms) =
    let others = within_segments (count + 1) ms in
    step is_not_memory (must_hold (nat_lt count 16) TooLarge) _ (within_check (nat_lt count 16) TooLarge refl)
    (λ _. step is_not_memory (segment_decoding m) _ (within_segment m) (λ first. step is_not_memory (segments_decoding (count + 1) ms) _ others (λ others. given is_not_memory (first ∷ others))))

within_type : (n : ℕ) → FailsWithin is_not_memory (type_of n)
within_type zero = record { passes = λ e is. let same : BadType ≡ e = cc in ap is_not_memory (sym same) }
within_type (suc zero) = given is_not_memory Up
within_type (suc (suc zero)) = given is_not_memory Down
within_type (suc (suc (suc zero))) = given is_not_memory Core
within_type (suc (suc (suc (suc n)))) = record { passes = λ e is. let same : BadType ≡ e = cc in ap is_not_memory (sym same) }

within_new_type : (entries : List MapEntry) (n : ℕ) → FailsWithin is_not_memory (new_type entries n)
unfolding new_type
within_new_type entries n = search (step, given, within_type, within_check) depth 16

within_message_fields : (shape : List FieldKind) (bytes : List ℕ) → FailsWithin is_not_memory (message_fields shape bytes)
within_message_fields shape bytes = weaker _ (plain_message_fields shape bytes)

within_map_entry : (entries : List MapEntry) (message : List ℕ) → FailsWithin is_not_memory (map_entry_decoding entries message)
unfolding map_entry_decoding
within_map_entry entries message = search (step, given, within_message_fields, within_new_type, within_segments) depth 16

within_map : (entries : List MapEntry) (messages : List (List ℕ)) → FailsWithin is_not_memory (map_decoding entries messages)
unfolding map_decoding
within_map entries [] = given is_not_memory entries
within_map entries (m ∷ ms) = step is_not_memory (map_entry_decoding entries m) _ (within_map_entry entries m) (λ entry. within_map (entries ++ entry ∷ []) ms)

within_result_map : {A B : Type 0} (view : A → B) (r : Result A SegError) → FailsWithin is_not_memory r → FailsWithin is_not_memory (result_map view r)
within_result_map view (Ok x) within = given is_not_memory (view x)
within_result_map view (Err d) within = record { passes = λ e is. within.passes e (cc) }

within_registration_outline : (message : List ℕ) → FailsWithin is_not_memory (registration_outline message)
within_registration_outline message = weaker _ (plain_registration_outline message)

pub within_registration : (message : List ℕ) → FailsWithin is_not_memory (registration_decoding message)
unfolding registration_decoding
within_registration message =
    step is_not_memory (registration_outline message) _ (within_registration_outline message)
    (λ messages. within_result_map entry_rows (map_decoding [] messages) (within_map [] messages))

pub within_request : (message : List ℕ) → FailsWithin is_not_memory (request_decoding message)
unfolding request_decoding
within_request message = search (step, given, within_message_fields) depth 16

pub no_memory : {A : Type 0} (r : Result A SegError) → FailsWithin is_not_memory r → r ≢ Err NoMemory
no_memory r within is = false≢true (within.passes NoMemory is)
