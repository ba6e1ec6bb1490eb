-- What the refusal of a command means: for `record_laws`.
use Rattle.std.proofs.Common.{◌≡◌, ℕ, zero, suc, ◌+◌, ◌*◌, Bool, true, false, List, [], ◌∷◌, length, drop, refl, sym, ap, ◌∙◌, Ok, Err, if◌then◌else◌}
use Rattle.std.specs.Prelude.{Result, nat_le, ◌==◌}
use Rattle.byte_lists.specs.Content.{AreBytes}
use Rattle.byte_lists.specs.Numbers.{eight_at}
use Rattle.seg_core.specs.Registration.{type_of}
use Rattle.path_db.specs.declared.command.Command.{Command}
use Rattle.path_db.specs.declared.command.Command.TheVariants.{Register, Purge, Remove}
use Rattle.path_records.specs.declared.error.DbError.{DbError}
use Rattle.path_records.specs.declared.error.DbError.TheVariants.{BadRecord}
use Rattle.path_records.specs.RecordSteps.{demand}
use Rattle.path_records.specs.RowRecord.{row_size, record_of, row_decoding}
use Rattle.path_records.specs.CommandRecord.{command_encoding, items_decoding, registration_record_decoding, purge_decoding, removal_decoding, command_decoding}
use Rattle.path_records.specs.RecordLaws.{HasCommandRecord}
use Rattle.path_records.specs.RecordRefusals.{CommandRefusalIsExact, CommandsHaveOneRefusal}
use Rattle.path_records.proofs.ReadBack.{command_read_back}
use Rattle.path_records.proofs.Refused.{bad_step, bad_end, bad_check, bad_record, bad_row}
use Rattle.path_records.proofs.Spelled.{command_spelled}
use Rattle.path_records.proofs.Writable.{command_can}

-- ---- a command is refused with BadRecord alone

bad_items : (count : ℕ) (bytes : List ℕ) (x : DbError) → items_decoding count bytes ≡ Err x → x ≡ BadRecord
unfolding items_decoding
bad_items zero [] x read = bad_end [] x read
bad_items zero (b ∷ bytes) x read = let same : BadRecord ≡ x = cc in sym same
bad_items (suc count) bytes x read =
    let behind = drop (row_size bytes) bytes in
    bad_step (row_decoding bytes) _ x (bad_row bytes)
    (λ row y later. bad_step (items_decoding count behind) (λ rows. Ok (row ∷ rows)) y (bad_items count behind) (λ rows z ends. bad_end (row ∷ rows) z ends) later) read

bad_registration : (body : List ℕ) (x : DbError) → registration_record_decoding body ≡ Err x → x ≡ BadRecord
unfolding registration_record_decoding
bad_registration [] x read = let same : BadRecord ≡ x = cc in sym same
bad_registration (count ∷ items) x read =
    let sized = nat_le (length items) (131072 + 5 * count) in
    bad_step (demand (nat_le count 16) BadRecord) _ x (bad_check (nat_le count 16))
    (λ _ y later. bad_step (demand sized BadRecord) _ y (bad_check sized)
    (λ _ z last. bad_step (items_decoding count items) (λ rows. Ok (Register rows)) z (bad_items count items) (λ rows w ends. bad_end (Register rows) w ends) last) later) read

bad_purge : (body : List ℕ) (x : DbError) → purge_decoding body ≡ Err x → x ≡ BadRecord
unfolding purge_decoding
bad_purge body x read =
    bad_step (demand (length body == 8) BadRecord) (λ _. Ok (Purge (eight_at 0 body))) x (bad_check (length body == 8)) (λ _ y ends. bad_end (Purge (eight_at 0 body)) y ends) read

bad_removal : (body : List ℕ) (x : DbError) → removal_decoding body ≡ Err x → x ≡ BadRecord
unfolding removal_decoding
bad_removal [] x read = let same : BadRecord ≡ x = cc in sym same
bad_removal (kind ∷ id) x read =
    bad_step (record_of (type_of kind)) _ x (bad_record (type_of kind))
    (λ k y later. bad_step (demand (length id == 32) BadRecord) (λ _. Ok (Remove k id)) y (bad_check (length id == 32)) (λ _ z ends. bad_end (Remove k id) z ends) later) read

bad_kind : (a b d removals : Bool) (body : List ℕ) (x : DbError)
    → (if a then registration_record_decoding body else if b then purge_decoding body else if d then (if removals then removal_decoding body else Err BadRecord) else Err BadRecord) ≡ Err x
    → x ≡ BadRecord
bad_kind true b d removals body x read = bad_registration body x read
bad_kind false true d removals body x read = bad_purge body x read
bad_kind false false true true body x read = bad_removal body x read
bad_kind false false true false body x read = let same : BadRecord ≡ x = cc in sym same
bad_kind false false false removals body x read = let same : BadRecord ≡ x = cc in sym same

pub one_refusal : CommandsHaveOneRefusal
unfolding command_decoding
one_refusal removals [] x read = let same : BadRecord ≡ x = cc in sym same
one_refusal removals (kind ∷ body) x read = bad_kind (kind == 1) (kind == 2) (kind == 3) removals body x read

-- ---- exactly where the bytes are not the record of a command

not_both : (command : Command) (e : DbError) (r : Result Command DbError) → r ≡ Ok command → r ≡ Err e → ⊥
not_both command e (Ok x) a b = absurd cc
not_both command e (Err x) a b = absurd cc

no_record : (removals : Bool) (bytes : List ℕ) → command_decoding removals bytes ≡ Err BadRecord → (command : Command) → HasCommandRecord removals command → command_encoding command ≡ bytes → ⊥
no_record removals bytes bad command can same =
    let read = command_read_back removals command can.limits can.whole can.widths can.allowed in
    not_both command BadRecord (command_decoding removals bytes) (ap (command_decoding removals) (sym same) ∙ read) bad

refused : (removals : Bool) (bytes : List ℕ) → AreBytes bytes → ((command : Command) → HasCommandRecord removals command → command_encoding command ≡ bytes → ⊥)
    → (r : Result Command DbError) → command_decoding removals bytes ≡ r → command_decoding removals bytes ≡ Err BadRecord
refused removals bytes each none (Ok command) is =
    absurd (none command (command_can removals bytes command each is) (command_spelled removals bytes command each is))
refused removals bytes each none (Err x) is = is ∙ ap (λ (y : DbError). Err y) (one_refusal removals bytes x is)

pub command_exact : CommandRefusalIsExact
command_exact removals bytes each = (no_record removals bytes, λ none. refused removals bytes each none (command_decoding removals bytes) refl)
