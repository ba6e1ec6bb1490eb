-- From what is known of a message that was taken, and what the hub answers to its command, to what
-- the message is answered: for `settle`.
use Rattle.std.proofs.Common.{◌≡◌, ◌≢◌, ◌⊎◌, ℕ, Bool, List, Option, Some, None, Result, Ok, Err, inl, inr, refl, sym, ap, subst}
use Rattle.seg_core.specs.declared.error.SegError.{SegError}
use Rattle.seg_core.specs.declared.error.SegError.TheVariants as seg
use Rattle.seg_core.specs.declared.seg_type.SegType.{SegType}
use Rattle.seg_core.specs.Registration.{registration_decoding, type_of}
use Rattle.seg_check.specs.declared.error.CheckError.{CheckError}
use Rattle.seg_check.specs.Checking.{first_refusal}
use Rattle.path_db.specs.declared.command.Command.{Command}
use Rattle.path_db.specs.declared.command.Command.TheVariants as command
use Rattle.row_map.specs.Database.{RowView}
use Rattle.store_layout.specs.Opening.{StoreValue}
use Rattle.group_core.specs.declared.submit_error.SubmitError.{SubmitError}
use Rattle.session_core.specs.declared.command_kind.CommandKind.{CommandKind}
use Rattle.session_core.specs.declared.command_kind.CommandKind.TheVariants as kind
use Rattle.session_core.specs.declared.message.Message.TheVariants.{Register, Lookup, Purge, Remove}
use Rattle.session_core.specs.declared.message.Message.TheVariants as message
use Rattle.session_core.specs.declared.service.Ack.{Ack}
use Rattle.session_core.specs.declared.service.Code.{Code}
use Rattle.session_core.specs.Commands.{command_kind, reply_to_kind}
use Rattle.session_core.specs.Frames.{MessageView}
use Rattle.session_core.specs.Reply.{ReplyView, Registered, Purged, Removed, Refused}
use Rattle.reply_codes.specs.declared.refusal.Refusal.{Refusal}
use Rattle.reply_codes.specs.declared.refusal.Refusal.TheVariants as refusal
use Rattle.reply_codes.specs.Codes.{seg_code}
use Rattle.reply_codes.specs.Replies.{reply_to_command}
use Rattle.hub_claims.specs.declared.error.HubError.{HubError}
use Rattle.hub_claims.specs.declared.error.HubError.TheVariants as hub
use Rattle.hub_claims.specs.Committed.{EndsWaiting}
use Rattle.path_session.specs.Serving.{Serving, at_moment, with_left}
use Rattle.path_session.specs.Refused.{hub_refusal}
use Rattle.path_session.specs.Answered.{AnswersCommand, AnswersChecked, AnswersRegistration, AnswersRemoval, IsAnswered, HubAnswers}
use Rattle.path_session.specs.Taking.{IsCommandAnswered}
use Rattle.path_session.specs.declared.under_way.HubUnderWay.{HubUnderWay}
use Rattle.path_session.specs.UnderWay.{reply_with, IsForRows, IsForUnread, IsForRegistration, IsForPurge, IsForRemoval, IsFor, after_check, AnswersTaken}

-- ---- commands

command_answered : (opening : StoreValue (List RowView)) (refused : Command → Option SubmitError → Bool) (taken : Ack → ReplyView) (old : Serving) (c : Command) (result : Result Ack Refusal) (new : Serving)
    → IsCommandAnswered opening refused old c result new → AnswersCommand opening refused taken old c (reply_to_command taken result) new
command_answered opening refused taken old c (Ok ack) new took = inl (record { ack = ack; replied = refl; committed = took })
command_answered opening refused taken old c (Err (refusal.Submit e)) new took = inr (inl (record { why = e; refusal = record { by_hub = took.by_hub; replied = (refl, took.same) } }))
command_answered opening refused taken old c (Err refusal.Stopped) new took = inr (inr (inl (record { by_hub = took.by_hub; replied = (refl, took.same) })))
command_answered opening refused taken old c (Err refusal.NoMemory) new took = absurd took
command_answered opening refused taken old c (Err (refusal.Message e)) new took = absurd took
command_answered opening refused taken old c (Err (refusal.Check e)) new took = absurd took
command_answered opening refused taken old c (Err (refusal.Lookup e)) new took = absurd took
command_answered opening refused taken old c (Err refusal.NoReader) new took = absurd took
command_answered opening refused taken old c (Err refusal.NotAwaited) new took = inr (inr (inr (record { gone = took.gone; replied = (refl, took.same) })))
command_answered opening refused taken old c (Err refusal.Future) new took = absurd took
command_answered opening refused taken old c (Err refusal.NoCommands) new took = absurd took

-- a wait that ended without a receipt is answered by its refusal
pub wait_ended : (opening : StoreValue (List RowView)) (refused : Command → Option SubmitError → Bool) (old : Serving) (c : Command) (new : Serving) (e : HubError)
    → EndsWaiting (refused c) new.left e → new ≡ with_left old new.left → IsCommandAnswered opening refused old c (Err (hub_refusal e)) new
wait_ended opening refused old c new hub.NoMemory why same = absurd why
wait_ended opening refused old c new hub.NoReader why same = absurd why
wait_ended opening refused old c new (hub.Stopped place) why same = record { by_hub = why; same = same }
wait_ended opening refused old c new (hub.Submit e) why same = record { by_hub = why; same = same }
wait_ended opening refused old c new hub.NotAwaited why same = record { gone = why; same = same }

-- the clock is not asked while the hub is
moment_stays : (opening : StoreValue (List RowView)) (refused : Command → Option SubmitError → Bool) (old : Serving) (c : Command) (result : Result Ack Refusal) (new : Serving) → IsCommandAnswered opening refused old c result new → new.moment ≡ old.moment
moment_stays opening refused old c (Ok ack) new took = ap (λ (s : Serving). s.moment) took.kept
moment_stays opening refused old c (Err (refusal.Submit e)) new took = ap (λ (s : Serving). s.moment) took.same
moment_stays opening refused old c (Err refusal.Stopped) new took = ap (λ (s : Serving). s.moment) took.same
moment_stays opening refused old c (Err refusal.NoMemory) new took = absurd took
moment_stays opening refused old c (Err (refusal.Message e)) new took = absurd took
moment_stays opening refused old c (Err (refusal.Check e)) new took = absurd took
moment_stays opening refused old c (Err (refusal.Lookup e)) new took = absurd took
moment_stays opening refused old c (Err refusal.NoReader) new took = absurd took
moment_stays opening refused old c (Err refusal.NotAwaited) new took = ap (λ (s : Serving). s.moment) took.same
moment_stays opening refused old c (Err refusal.Future) new took = absurd took
moment_stays opening refused old c (Err refusal.NoCommands) new took = absurd took

-- nor does the verifier change
verdicts_kept : (opening : StoreValue (List RowView)) (refused : Command → Option SubmitError → Bool) (old : Serving) (c : Command) (result : Result Ack Refusal) (new : Serving) → IsCommandAnswered opening refused old c result new → new.verifies ≡ old.verifies
verdicts_kept opening refused old c (Ok ack) new took = ap (λ (s : Serving). s.verifies) took.kept
verdicts_kept opening refused old c (Err (refusal.Submit e)) new took = ap (λ (s : Serving). s.verifies) took.same
verdicts_kept opening refused old c (Err refusal.Stopped) new took = ap (λ (s : Serving). s.verifies) took.same
verdicts_kept opening refused old c (Err refusal.NoMemory) new took = absurd took
verdicts_kept opening refused old c (Err (refusal.Message e)) new took = absurd took
verdicts_kept opening refused old c (Err (refusal.Check e)) new took = absurd took
verdicts_kept opening refused old c (Err (refusal.Lookup e)) new took = absurd took
verdicts_kept opening refused old c (Err refusal.NoReader) new took = absurd took
verdicts_kept opening refused old c (Err refusal.NotAwaited) new took = ap (λ (s : Serving). s.verifies) took.same
verdicts_kept opening refused old c (Err refusal.Future) new took = absurd took
verdicts_kept opening refused old c (Err refusal.NoCommands) new took = absurd took

-- a registration may be refused for memory
is_memory : (e : SegError) → (e ≡ seg.NoMemory) ⊎ (e ≢ seg.NoMemory)
is_memory seg.NoMemory = inl refl
is_memory (seg.Wire e) = inr (λ is. (cc))
is_memory seg.KindOfField = inr (λ is. (cc))
is_memory seg.RepeatedMessage = inr (λ is. (cc))
is_memory seg.MissingField = inr (λ is. (cc))
is_memory seg.Range = inr (λ is. (cc))
is_memory seg.Chain = inr (λ is. (cc))
is_memory seg.Loop = inr (λ is. (cc))
is_memory seg.Entries = inr (λ is. (cc))
is_memory seg.BadType = inr (λ is. (cc))
is_memory seg.TooLarge = inr (λ is. (cc))

module _ (opening : StoreValue (List RowView)) (refused : Command → Option SubmitError → Bool) (shut : Bool) (old : Serving) where
  registration_answered : (body : List ℕ) (rows : List RowView) (moment : ℕ) (result : Result Ack Refusal) (new : Serving)
      → registration_decoding body ≡ Ok rows → first_refusal old.verifies moment rows ≡ None
      → IsCommandAnswered opening refused (at_moment old moment) (command.Register rows) result new
      → HubAnswers opening refused shut old (Register body) (reply_to_command (λ ack. Registered ack) result) new
  unfolding IsAnswered
  registration_answered body rows moment result new is accepted took =
      let reply = reply_to_command (λ (ack : Ack). Registered ack) result in
      let given : moment ≡ new.moment = sym (moment_stays opening refused (at_moment old moment) (command.Register rows) result new took) in
      let answered = command_answered opening refused (λ ack. Registered ack) (at_moment old moment) (command.Register rows) result new took in
      let checked = subst (λ (judged : Option CheckError). AnswersChecked opening refused (at_moment old moment) rows judged reply new) (sym accepted) answered in
      let at_new = subst (λ (m : ℕ). AnswersChecked opening refused (at_moment old m) rows (first_refusal old.verifies m rows) reply new) given checked in
      inr (subst (λ (read : Result (List RowView) SegError). AnswersRegistration opening refused old read reply new) (sym is) at_new)

  removal_answered : (kind : ℕ) (id : List ℕ) (of_type : SegType) (result : Result Ack Refusal) (new : Serving)
      → type_of kind ≡ Ok of_type → IsCommandAnswered opening refused old (command.Remove of_type id) result new
      → HubAnswers opening refused shut old (Remove kind id) (reply_to_command (λ ack. Removed ack) result) new
  unfolding IsAnswered
  removal_answered kind id of_type result new is took =
      let reply = reply_to_command (λ (ack : Ack). Removed ack) result in
      let answered = command_answered opening refused (λ ack. Removed ack) old (command.Remove of_type id) result new took in
      inr (subst (λ (read : Result SegType SegError). AnswersRemoval opening refused old id read reply new) (sym is) answered)

  purge_answered : (moment : ℕ) (result : Result Ack Refusal) (new : Serving)
      → IsCommandAnswered opening refused old (command.Purge moment) result new → HubAnswers opening refused shut old (Purge moment) (reply_to_command (λ ack. Purged ack) result) new
  unfolding IsAnswered
  purge_answered moment result new took = inr (command_answered opening refused (λ ack. Purged ack) old (command.Purge moment) result new took)

  -- ---- refusals of a message that was taken

  -- the reply is a refusal
  abbrev HasRefused : (Ack → ReplyView) → MessageView → Refusal → Serving → Type 0
  HasRefused taken message refusal new = HubAnswers opening refused shut old message (reply_to_command taken (Err refusal)) new

  -- the segments of a registration were judged so at the moment
  judged_so : (body : List ℕ) (rows : List RowView) (moment : ℕ) (judged : Option CheckError) (reply : ReplyView) → registration_decoding body ≡ Ok rows → first_refusal old.verifies moment rows ≡ judged
      → AnswersChecked opening refused (at_moment old moment) rows judged reply (at_moment old moment) → HubAnswers opening refused shut old (Register body) reply (at_moment old moment)
  unfolding IsAnswered
  judged_so body rows moment judged reply is so answered =
      let checked = subst (λ (j : Option CheckError). AnswersChecked opening refused (at_moment old moment) rows j reply (at_moment old moment)) (sym so) answered in
      inr (subst (λ (read : Result (List RowView) SegError). AnswersRegistration opening refused old read reply (at_moment old moment)) (sym is) checked)

  checked_refused : (body : List ℕ) (rows : List RowView) (moment : ℕ) (refusal : Refusal) → registration_decoding body ≡ Ok rows → IsForRows refused old.verifies rows moment (Err refusal)
      → HasRefused (λ ack. Registered ack) (Register body) refusal (at_moment old moment)
  checked_refused body rows moment (refusal.Check e) is known = judged_so body rows moment (Some e) _ is known (refl, refl)
  checked_refused body rows moment (refusal.Submit e) is known =
      judged_so body rows moment None _ is known.0 (inr (inl (record { why = e; refusal = record { by_hub = known.1; replied = (refl, refl) } })))
  checked_refused body rows moment refusal.Stopped is known = absurd known
  checked_refused body rows moment refusal.NoMemory is known = absurd known
  checked_refused body rows moment (refusal.Message e) is known = absurd known
  checked_refused body rows moment (refusal.Lookup e) is known = absurd known
  checked_refused body rows moment refusal.NoReader is known = absurd known
  checked_refused body rows moment refusal.NotAwaited is known = absurd known
  checked_refused body rows moment refusal.Future is known = absurd known
  checked_refused body rows moment refusal.NoCommands is known = absurd known

  unread_message : (body : List ℕ) (e : SegError) → IsForUnread body (Err (refusal.Message e)) → (e ≡ seg.NoMemory) ⊎ (e ≢ seg.NoMemory) → HasRefused (λ ack. Registered ack) (Register body) (refusal.Message e) old
  unfolding IsAnswered
  unread_message body e known (inl is) = inl ((ap (λ (x : SegError). Refused (seg_code x)) is, refl), known.1 is)
  unread_message body e known (inr not) =
      inr (subst (λ (read : Result (List RowView) SegError). AnswersRegistration opening refused old read (Refused (seg_code e)) old) (sym (known.0 not)) (refl, refl))

  unread_refused : (body : List ℕ) (refusal : Refusal) → IsForUnread body (Err refusal) → HasRefused (λ ack. Registered ack) (Register body) refusal old
  unread_refused body (refusal.Message e) known = unread_message body e known (is_memory e)
  unread_refused body refusal.NoMemory known = absurd known
  unread_refused body (refusal.Check e) known = absurd known
  unread_refused body (refusal.Submit e) known = absurd known
  unread_refused body refusal.Stopped known = absurd known
  unread_refused body (refusal.Lookup e) known = absurd known
  unread_refused body refusal.NoReader known = absurd known
  unread_refused body refusal.NotAwaited known = absurd known
  unread_refused body refusal.Future known = absurd known
  unread_refused body refusal.NoCommands known = absurd known

  purge_refused : (until : ℕ) (refusal : Refusal) → IsForPurge refused until (Err refusal) → HasRefused (λ ack. Purged ack) (Purge until) refusal old
  unfolding IsAnswered
  purge_refused until (refusal.Submit e) known = inr (inr (inl (record { why = e; refusal = record { by_hub = known; replied = (refl, refl) } })))
  purge_refused until refusal.Stopped known = absurd known
  purge_refused until refusal.NoMemory known = absurd known
  purge_refused until (refusal.Message e) known = absurd known
  purge_refused until (refusal.Check e) known = absurd known
  purge_refused until (refusal.Lookup e) known = absurd known
  purge_refused until refusal.NoReader known = absurd known
  purge_refused until refusal.NotAwaited known = absurd known
  purge_refused until refusal.Future known = absurd known
  purge_refused until refusal.NoCommands known = absurd known

  -- the type of a removal was read
  read_so : (number : ℕ) (id : List ℕ) (read : Result SegType SegError) (reply : ReplyView) → type_of number ≡ read → AnswersRemoval opening refused old id read reply old → HubAnswers opening refused shut old (Remove number id) reply old
  unfolding IsAnswered
  read_so number id read reply is answered = inr (subst (λ (r : Result SegType SegError). AnswersRemoval opening refused old id r reply old) (sym is) answered)

  removal_refused : (number : ℕ) (id : List ℕ) (refusal : Refusal) → IsForRemoval refused number id (Err refusal) → HasRefused (λ ack. Removed ack) (Remove number id) refusal old
  removal_refused number id (refusal.Message e) known = read_so number id (Err e) _ known (refl, refl)
  removal_refused number id (refusal.Submit e) known =
      read_so number id (Ok known.0) _ known.1 (inr (inl (record { why = e; refusal = record { by_hub = known.2; replied = (refl, refl) } })))
  removal_refused number id refusal.Stopped known = absurd known
  removal_refused number id refusal.NoMemory known = absurd known
  removal_refused number id (refusal.Check e) known = absurd known
  removal_refused number id (refusal.Lookup e) known = absurd known
  removal_refused number id refusal.NoReader known = absurd known
  removal_refused number id refusal.NotAwaited known = absurd known
  removal_refused number id refusal.Future known = absurd known
  removal_refused number id refusal.NoCommands known = absurd known

  -- ---- messages that were taken

  -- a refusal is answered as it is
  as_it_is : (taken : Ack → ReplyView) (message : MessageView) (refusal : Refusal) (from new : Serving) (result : Result Ack Refusal) → HasRefused taken message refusal from → (result ≡ Err refusal) × (new ≡ from)
      → HubAnswers opening refused shut old message (reply_to_command taken result) new
  as_it_is taken message refusal from new result before answered =
      let told = subst (λ (r : Result Ack Refusal). HubAnswers opening refused shut old message (reply_to_command taken r) from) (sym answered.0) before in
      subst (λ (s : Serving). HubAnswers opening refused shut old message (reply_to_command taken result) s) (sym answered.1) told

  registration_settled : (body : List ℕ) (moment : Option ℕ) (handed : Result Command Refusal) (result : Result Ack Refusal) (new : Serving) → IsForRegistration refused old.verifies body moment handed
      → AnswersTaken opening refused (after_check old moment) handed result new → HubAnswers opening refused shut old (Register body) (reply_to_command (λ ack. Registered ack) result) new
  registration_settled body (Some moment) (Ok c) result new known answered =
      registration_answered body known.rows moment result new known.read known.checked.0 (subst (λ (d : Command). IsCommandAnswered opening refused (at_moment old moment) d result new) known.checked.1 answered)
  registration_settled body (Some moment) (Err refusal) result new known answered =
      as_it_is (λ ack. Registered ack) (Register body) refusal (at_moment old moment) new result (checked_refused body known.rows moment refusal known.read known.checked) answered
  registration_settled body None (Ok c) result new known answered = absurd known
  registration_settled body None (Err refusal) result new known answered =
      as_it_is (λ ack. Registered ack) (Register body) refusal old new result (unread_refused body refusal known) answered

  purge_settled : (until : ℕ) (handed : Result Command Refusal) (result : Result Ack Refusal) (new : Serving) → IsForPurge refused until handed
      → AnswersTaken opening refused old handed result new → HubAnswers opening refused shut old (Purge until) (reply_to_command (λ ack. Purged ack) result) new
  purge_settled until (Ok c) result new known answered = purge_answered until result new (subst (λ (d : Command). IsCommandAnswered opening refused old d result new) known answered)
  purge_settled until (Err refusal) result new known answered = as_it_is (λ ack. Purged ack) (Purge until) refusal old new result (purge_refused until refusal known) answered

  removal_settled : (number : ℕ) (id : List ℕ) (handed : Result Command Refusal) (result : Result Ack Refusal) (new : Serving) → IsForRemoval refused number id handed
      → AnswersTaken opening refused old handed result new → HubAnswers opening refused shut old (Remove number id) (reply_to_command (λ ack. Removed ack) result) new
  removal_settled number id (Ok c) result new known answered =
      removal_answered number id known.0 result new known.1 (subst (λ (d : Command). IsCommandAnswered opening refused old d result new) known.2 answered)
  removal_settled number id (Err refusal) result new known answered = as_it_is (λ ack. Removed ack) (Remove number id) refusal old new result (removal_refused number id refusal known) answered

  -- what was taken is answered as its message
  settled : {N : Type 0} → (under_way : HubUnderWay N) (message : MessageView) (result : Result Ack Refusal) (new : Serving) → IsFor refused old.verifies under_way message
      → AnswersTaken opening refused (after_check old under_way.moment) under_way.handed result new
      → (kind : CommandKind) → command_kind message ≡ Some kind → HubAnswers opening refused shut old message (reply_to_command (reply_with kind) result) new
  settled under_way (Register body) result new known answered kind.Register is = registration_settled body under_way.moment under_way.handed result new known answered
  settled under_way (Register body) result new known answered kind.Purge is = absurd (cc)
  settled under_way (Register body) result new known answered kind.Remove is = absurd (cc)
  settled under_way (Lookup body) result new known answered k is = absurd known
  settled under_way (message.List request) result new known answered k is = absurd known
  settled under_way (Purge until) result new known answered kind.Purge is =
      purge_settled until under_way.handed result new known.1 (subst (λ (m : Option ℕ). AnswersTaken opening refused (after_check old m) under_way.handed result new) known.0 answered)
  settled under_way (Purge until) result new known answered kind.Register is = absurd (cc)
  settled under_way (Purge until) result new known answered kind.Remove is = absurd (cc)
  settled under_way (Remove number id) result new known answered kind.Remove is =
      removal_settled number id under_way.handed result new known.1 (subst (λ (m : Option ℕ). AnswersTaken opening refused (after_check old m) under_way.handed result new) known.0 answered)
  settled under_way (Remove number id) result new known answered kind.Register is = absurd (cc)
  settled under_way (Remove number id) result new known answered kind.Purge is = absurd (cc)

  -- the same with the code of a refusal
  pub settled_coded : {N : Type 0} → (under_way : HubUnderWay N) (message : MessageView) (kind : CommandKind) (result : Result Ack Refusal) (coded : Result Ack Code) (new : Serving)
      → IsFor refused old.verifies under_way message → command_kind message ≡ Some kind
      → AnswersTaken opening refused (after_check old under_way.moment) under_way.handed result new
      → reply_to_kind (λ (ack : Ack). ack) kind coded ≡ reply_to_command (reply_with kind) result → HubAnswers opening refused shut old message (reply_to_kind (λ (ack : Ack). ack) kind coded) new
  settled_coded under_way message k result coded new known of_kind answered is =
      subst (λ (reply : ReplyView). HubAnswers opening refused shut old message reply new) (sym is) (settled under_way message result new known answered k of_kind)

-- the verdicts do not change
pub verdicts_stay : (opening : StoreValue (List RowView)) (refused : Command → Option SubmitError → Bool) (old new : Serving) (handed : Result Command Refusal) (result : Result Ack Refusal) (moment : Option ℕ) → AnswersTaken opening refused (after_check old moment) handed result new → new.verifies ≡ old.verifies
verdicts_stay opening refused old new (Err refusal) result (Some moment) answered = ap (λ (s : Serving). s.verifies) answered.1
verdicts_stay opening refused old new (Err refusal) result None answered = ap (λ (s : Serving). s.verifies) answered.1
verdicts_stay opening refused old new (Ok c) result (Some moment) answered = verdicts_kept opening refused (at_moment old moment) c result new answered
verdicts_stay opening refused old new (Ok c) result None answered = verdicts_kept opening refused old c result new answered
