-- What is known of a registration that was decoded and checked, and of a message whose command was
-- taken: for `OnceService::accept`, `OnceService::drop_expired`, `OnceService::drop_one`.
use Rattle.std.proofs.Common.{◌≡◌, ◌≢◌, ◌⊎◌, ℕ, ◌+◌, ◌-◌, ◌*◌, ◌^◌, ◌<◌, Bool, true, false, if◌then◌else◌, List, [], None, Result, Ok, Err, inl, inr, refl, sym, ap, ◌∙◌, subst}
use Rattle.std.specs.Result.{IsOk}
use Rattle.std.proofs.lemmas.Bool.{ne_eqb, eq-eqb, le-leb}
use Rattle.std.proofs.lemmas.Bool.Decides.{leb_tells}
use Rattle.seg_core.specs.declared.error.SegError.{SegError}
use Rattle.seg_core.specs.Steps.{◌>>=◌, result_map}
use Rattle.seg_core.specs.declared.seg_type.SegType.{SegType}
use Rattle.seg_core.specs.Registration.{registration_outline, registration_decoding, map_decoding, entry_rows, type_of}
use Rattle.seg_check.specs.Checking.{first_refusal}
use Rattle.path_db.specs.declared.command.Command.{Command}
use Rattle.path_db.specs.declared.command.Command.TheVariants as command
use Rattle.path_db.specs.Command.{database_after}
use Rattle.row_map.specs.Database.{RowView, rows_len}
use Rattle.session_core.specs.declared.message.Message.TheVariants.{Register, Purge, Remove}
use Rattle.session_core.specs.declared.service.Ack.{Ack}
use Rattle.session_core.specs.Frames.{MessageView}
use Rattle.session_core.specs.Reply.{ReplyView, Registered, Purged, Removed}
use Rattle.once_store.specs.Taking.{FitStore}
use Rattle.group_core.specs.declared.submit_error.SubmitError.TheVariants as submit
use Rattle.reply_codes.specs.declared.refusal.Refusal.{Refusal}
use Rattle.reply_codes.specs.declared.refusal.Refusal.TheVariants.{NoMemory, Message, Check, Lookup, Submit, NoReader, Stopped, NotAwaited, Future, NoCommands}
use Rattle.reply_codes.specs.Codes.{submit_code}
use Rattle.reply_codes.specs.Replies.{reply_to_command}
use Rattle.cli_once.specs.Memory.{Served, Step, refused_step, fits_store, command_step, ack_of, after_command, checked_step, registration_step, removal_step, message_step, MayRunOut, Answers}
use Rattle.cli_once.specs.Taking.{ServesCommand, MayAcknowledge}

-- ---- reading

first_is_ok : {A B : Type 0} (first : Result A SegError) (rest : A → Result B SegError) (y : B) → (first >>= rest) ≡ Ok y → IsOk first
first_is_ok (Ok x) rest y is = refl
first_is_ok (Err e) rest y is = subst IsOk (sym is) refl

-- what is decoded has an outline
decoded_outline : (body : List ℕ) (rows : List RowView) → registration_decoding body ≡ Ok rows → IsOk (registration_outline body)
unfolding registration_decoding
decoded_outline body rows is = first_is_ok (registration_outline body) (λ messages. result_map entry_rows (map_decoding [] messages)) rows is

-- ---- commands

module _ (reply : Ack → ReplyView) (old : Served) (message : MessageView) (c : Command) (is : message_step old message ≡ command_step reply old c) where
  -- by both tests: whether a place is left, and whether the rows fit
  abbrev judged_step : Bool → Bool → Step
  judged_step exhausted fits =
      if exhausted then refused_step old (submit_code submit.Exhausted) else if fits then (reply (ack_of old c), after_command old c) else refused_step old (submit_code submit.Full)

  taken_step : (left : Served) → ServesCommand old c left → message_step old message ≡ (reply (ack_of old c), after_command old c)
  taken_step left takes =
      is ∙ ap (λ (b : Bool). judged_step b (fits_store (database_after old.rows c))) (ne_eqb old.place (2 ^ 64 - 1) takes.left)
      ∙ ap (judged_step false) (le-leb (32 + rows_len (database_after old.rows c)) (512 * 4096) takes.fits)

  full_step : old.place ≢ 2 ^ 64 - 1 → ¬ FitStore (database_after old.rows c) → message_step old message ≡ refused_step old (submit_code submit.Full)
  full_step left full =
      is ∙ ap (λ (b : Bool). judged_step b (fits_store (database_after old.rows c))) (ne_eqb old.place (2 ^ 64 - 1) left)
      ∙ ap (judged_step false) (not_fits (leb_tells (32 + rows_len (database_after old.rows c)) (512 * 4096)))
    where
      not_fits : ((fits_store (database_after old.rows c) ≡ true) × FitStore (database_after old.rows c))
          ⊎ ((fits_store (database_after old.rows c) ≡ false) × (512 * 4096 < 32 + rows_len (database_after old.rows c)))
          → fits_store (database_after old.rows c) ≡ false
      not_fits (inl fits) = absurd (full fits.1)
      not_fits (inr over) = over.0

  exhausted_step : old.place ≡ 2 ^ 64 - 1 → message_step old message ≡ refused_step old (submit_code submit.Exhausted)
  exhausted_step last =
      is ∙ ap (λ (b : Bool). judged_step b (fits_store (database_after old.rows c))) (eq-eqb old.place (2 ^ 64 - 1) last)

  same_or_taken : (left : Served) → (left ≡ old) ⊎ ServesCommand old c left → (left ≡ old) ⊎ (left ≡ (message_step old message).1)
  same_or_taken left (inl same) = inl same
  same_or_taken left (inr takes) = inr (takes.taken ∙ sym (ap (λ (s : Step). s.1) (taken_step left takes)))

  -- what taking the command answers is what its message is answered
  pub command_answered : (result : Result Ack Refusal) (left : Served) → MayRunOut old message → MayAcknowledge old c result left
      → Answers old message (reply_to_command reply result) left
  command_answered (Ok ack) left may took =
      let step = taken_step left took.1 in
      inr (record { replied = ap reply took.0 ∙ sym (ap (λ (s : Step). s.0) step); left = took.1.taken ∙ sym (ap (λ (s : Step). s.1) step) })
  command_answered (Err NoMemory) left may took = inl (record { refused = refl; may = may; left = same_or_taken left took })
  command_answered (Err (Submit submit.Full)) left may took =
      let step = full_step took.0 took.1 in
      inr (record { replied = sym (ap (λ (s : Step). s.0) step); left = took.2 ∙ sym (ap (λ (s : Step). s.1) step) })
  command_answered (Err (Submit submit.Exhausted)) left may took =
      let step = exhausted_step took.0 in
      inr (record { replied = sym (ap (λ (s : Step). s.0) step); left = took.1 ∙ sym (ap (λ (s : Step). s.1) step) })
  command_answered (Err (Message e)) left may took = absurd took
  command_answered (Err (Check e)) left may took = absurd took
  command_answered (Err (Lookup e)) left may took = absurd took
  command_answered (Err (Submit submit.Busy)) left may took = absurd took
  command_answered (Err (Submit submit.TooLarge)) left may took = absurd took
  command_answered (Err (Submit submit.Stopped)) left may took = absurd took
  command_answered (Err (Submit submit.NoMemory)) left may took = absurd took
  command_answered (Err (Submit submit.OldStore)) left may took = absurd took
  command_answered (Err NoReader) left may took = absurd took
  command_answered (Err Stopped) left may took = absurd took
  command_answered (Err NotAwaited) left may took = absurd took
  command_answered (Err Future) left may took = absurd took
  command_answered (Err NoCommands) left may took = absurd took

-- ---- which command a message is

registration_step_of : (old : Served) (body : List ℕ) (rows : List RowView) → registration_decoding body ≡ Ok rows → first_refusal old.verifies old.now rows ≡ None
    → message_step old (Register body) ≡ command_step (λ ack. Registered ack) old (command.Register rows)
unfolding message_step
registration_step_of old body rows decoded accepted = ap (registration_step old) decoded ∙ ap (checked_step old rows) accepted

pub registration_taken : (old : Served) (body : List ℕ) (rows : List RowView) (result : Result Ack Refusal) (left : Served)
    → registration_decoding body ≡ Ok rows → first_refusal old.verifies old.now rows ≡ None → MayAcknowledge old (command.Register rows) result left
    → Answers old (Register body) (reply_to_command (λ ack. Registered ack) result) left
registration_taken old body rows result left decoded accepted took =
    command_answered (λ ack. Registered ack) old (Register body) (command.Register rows) (registration_step_of old body rows decoded accepted)
    result left (decoded_outline body rows decoded) took

purge_step_of : (old : Served) (moment : ℕ) → message_step old (Purge moment) ≡ command_step (λ ack. Purged ack) old (command.Purge moment)
unfolding message_step
purge_step_of old moment = refl

pub purge_taken : (old : Served) (moment : ℕ) (result : Result Ack Refusal) (left : Served) → MayAcknowledge old (command.Purge moment) result left
    → Answers old (Purge moment) (reply_to_command (λ ack. Purged ack) result) left
purge_taken old moment result left took =
    command_answered (λ ack. Purged ack) old (Purge moment) (command.Purge moment) (purge_step_of old moment) result left tt took

removal_step_of : (old : Served) (number : ℕ) (kind : SegType) (id : List ℕ) → type_of number ≡ Ok kind
    → message_step old (Remove number id) ≡ command_step (λ ack. Removed ack) old (command.Remove kind id)
unfolding message_step
removal_step_of old number kind id is = ap (removal_step old id) is

pub removal_taken : (old : Served) (number : ℕ) (kind : SegType) (id : List ℕ) (result : Result Ack Refusal) (left : Served) → type_of number ≡ Ok kind
    → MayAcknowledge old (command.Remove kind id) result left → Answers old (Remove number id) (reply_to_command (λ ack. Removed ack) result) left
removal_taken old number kind id result left is took =
    command_answered (λ ack. Removed ack) old (Remove number id) (command.Remove kind id) (removal_step_of old number kind id is)
    result left (subst IsOk (sym is) refl) took
