-- What a service over a hub answers to a message, and what the service is then.
use Rattle.std.specs.Prelude.{◌≡◌, ℕ, ◌+◌, ◌<◌, ◌≤◌, ◌⊎◌, Bool, true, List, [], ◌∷◌, ◌++◌, length, Option, Some, None, Result, Ok, Err, IsOk}
use mathlib.Core.List.{IsPrefix}
use Rattle.seg_core.specs.declared.error.SegError.{SegError}
use Rattle.seg_core.specs.declared.seg_type.SegType.{SegType}
use Rattle.seg_core.specs.Request.{request_decoding}
use Rattle.seg_core.specs.Registration.{registration_outline, registration_decoding, type_of}
use Rattle.seg_check.specs.declared.error.CheckError.{CheckError}
use Rattle.seg_check.specs.Checking.{first_refusal}
use Rattle.path_db.specs.declared.command.Command.{Command}
use Rattle.path_db.specs.declared.command.Command.TheVariants as command
use Rattle.row_map.specs.Database.{RowView}
use Rattle.path_db.specs.Answer.{segments_of}
use Rattle.seg_lookup.specs.declared.error.LookupError.{LookupError}
use Rattle.seg_lookup.specs.Query.{QueryView}
use Rattle.seg_lookup.specs.Classification.{query_of}
use Rattle.seg_lookup.specs.Answer.{answer_to}
use Rattle.seg_lookup.specs.Page.{answer_after, has_more}
use Rattle.store_layout.specs.Opening.{StoreValue}
use Rattle.group_core.specs.declared.submit_error.SubmitError.{SubmitError}
use Rattle.logged_state.specs.ReceiptView.{ReceiptView}
use Rattle.hub_readers.specs.Shown.{shown_after}
use Rattle.hub_readers.specs.Sight.{place_after}
use Rattle.session_core.specs.declared.list_request.ListRequest.{ListRequest}
use Rattle.session_core.specs.declared.message.Message.TheVariants.{Register, Lookup, Purge, Remove}
use Rattle.session_core.specs.declared.message.Message.TheVariants as message
use Rattle.session_core.specs.declared.service.Ack.{Ack}
use Rattle.session_core.specs.Frames.{MessageView}
use Rattle.session_core.specs.Reply.{ReplyView, Registered, Found, Purged, Removed, Listed, Refused}
use Rattle.reply_codes.specs.Codes.{memory_code, reader_code, stopped_code, not_awaited_code, seg_code, check_code, lookup_code, submit_code}
use Rattle.path_session.specs.Serving.{Serving, at_moment, with_left}

-- The reply is a refusal, and nothing changed.
abbrev pub IsRefusedWithCode : ℕ → Serving → ReplyView → Serving → Type 0
IsRefusedWithCode code old reply new = (reply ≡ Refused code) × (new ≡ old)

-- ---- commands

module _ (opening : StoreValue (List RowView)) where
  -- The command was committed.
  pub record AcknowledgesCommit (old : Serving) (c : Command) (ack : Ack) (new : Serving) : Type 0 where
    -- The hub's receipt, without its note.
    pub receipt : ReceiptView ℕ
    -- The service keeps the receipt's claim with those of the acknowledgements before, and what it
    -- has seen may grow. Its peer may have been asked whether it has left.
    pub kept : new ≡ record old { seen = new.seen; acknowledged = old.acknowledged ++ receipt.logged ∷ []; left = new.left }
    -- The receipt claims that the log of the hub's state has the command at its index.
    pub shows : receipt.logged.command ≡ c
    -- The receipt's place is that of the index: it counts from the hub's opening value.
    pub counts : receipt.place ≡ opening.place + receipt.logged.index
    -- The acknowledgement has the receipt's place.
    pub place : ack.place ≡ receipt.place
    -- The acknowledgement has the receipt's outcome.
    pub outcome : ack.outcome ≡ receipt.outcome
    -- The receipt has no note.
    pub learnt : receipt.note ≡ None
    -- The service has seen more than the command's place.
    pub above : receipt.place < new.seen
    -- The service has seen no less than before.
    pub grows : old.seen ≤ new.seen

  -- The reply is an acknowledgement of the command.
  pub record IsAcknowledged (taken : Ack → ReplyView) (old : Serving) (c : Command) (reply : ReplyView) (new : Serving) : Type 0 where
    pub ack : Ack
    pub replied : reply ≡ taken ack
    pub committed : AcknowledgesCommit old c ack new

-- The code of a refusal by the hub: of its reason, or that the store stopped before the command was
-- committed.
abbrev pub hub_code : Option SubmitError → ℕ
hub_code (Some e) = submit_code e
hub_code None = stopped_code

module _ (refused : Command → Option SubmitError → Bool) where
  -- The hub refused the command, with the code of its reason, and nothing changed, but that the
  -- peer may have been asked whether it has left.
  pub record IsNotCommitted (why : Option SubmitError) (old : Serving) (c : Command) (reply : ReplyView) (new : Serving) : Type 0 where
    -- It is known that the hub refused the command for this reason.
    pub by_hub : refused c why ≡ true
    pub replied : IsRefusedWithCode (hub_code why) (with_left old new.left) reply new

  -- The hub did not accept the command.
  pub record IsNotAccepted (old : Serving) (c : Command) (reply : ReplyView) (new : Serving) : Type 0 where
    pub why : SubmitError
    pub refusal : IsNotCommitted (Some why) old c reply new

-- The peer had left, and the wait for a command's commit was given up. Nothing else changed. The
-- command goes on.
pub record IsNotAwaited (old : Serving) (reply : ReplyView) (new : Serving) : Type 0 where
  pub gone : new.left ≡ true
  pub replied : IsRefusedWithCode not_awaited_code (with_left old new.left) reply new

-- At a hub that opened with this value, and of whose commands it is known for which reasons they
-- were refused.
module _ (opening : StoreValue (List RowView)) (refused : Command → Option SubmitError → Bool) where
  -- The command was committed. Otherwise the hub refused it, since it was not accepted or the store
  -- stopped before it was committed; or the peer had left. Nothing else changed then.
  abbrev pub AnswersCommand : (Ack → ReplyView) → Serving → Command → ReplyView → Serving → Type 0
  AnswersCommand taken old c reply new =
      IsAcknowledged opening taken old c reply new
      ⊎ (IsNotAccepted refused old c reply new ⊎ (IsNotCommitted refused None old c reply new ⊎ IsNotAwaited old reply new))

  -- A registration whose segments were checked is refused, or its command is answered.
  abbrev pub AnswersChecked : Serving → List RowView → Option CheckError → ReplyView → Serving → Type 0
  AnswersChecked old rows None reply new = AnswersCommand Registered old (command.Register rows) reply new
  AnswersChecked old rows (Some e) reply new = IsRefusedWithCode (check_code e) old reply new

  -- The clock is asked for a registration that was read, and its segments are checked at the moment
  -- that the clock gave then.
  abbrev pub AnswersRegistration : Serving → Result (List RowView) SegError → ReplyView → Serving → Type 0
  AnswersRegistration old (Ok rows) reply new =
      AnswersChecked (at_moment old new.moment) rows (first_refusal old.verifies new.moment rows) reply new
  AnswersRegistration old (Err e) reply new = IsRefusedWithCode (seg_code e) old reply new

  -- A removal that was read is answered as its command.
  abbrev pub AnswersRemoval : Serving → List ℕ → Result SegType SegError → ReplyView → Serving → Type 0
  AnswersRemoval old id (Ok kind) reply new = AnswersCommand Removed old (command.Remove kind id) reply new
  AnswersRemoval old id (Err e) reply new = IsRefusedWithCode (seg_code e) old reply new

-- ---- lookups

module _ (opening : StoreValue (List RowView)) where
  -- The rows that a query shows at a moment, of what a hub that opened with this value shows after
  -- these groups.
  abbrev pub found_after : List (List Command) → QueryView → ℕ → List RowView
  found_after groups query moment = answer_to (shown_after opening groups).db query moment

  -- The reader was shown what is published.
  pub record HasLooked (old new : Serving) : Type 0 where
    -- The service has the groups that were shown, and has seen their place. Nothing else has
    -- changed.
    pub kept : new ≡ record old { groups = new.groups; seen = place_after opening new.groups }
    -- The groups are all that the reader was shown before, and maybe more.
    pub later : IsPrefix old.groups new.groups
    -- Their place is no less than what the service had seen.
    pub fresh : old.seen ≤ place_after opening new.groups

  -- The reply has the segments that the query shows, of what the reader was shown.
  pub record RepliesWithSegments (old : Serving) (query : QueryView) (reply : ReplyView) (new : Serving) : Type 0 where
    pub looked : HasLooked old new
    pub replied : reply ≡ Found query.kind (segments_of (found_after new.groups query new.moment))

  -- The segments were refused memory.
  pub record LacksMemory (old : Serving) (query : QueryView) (reply : ReplyView) (new : Serving) : Type 0 where
    pub looked : HasLooked old new
    pub some : 1 ≤ length (found_after new.groups query new.moment)
    pub refused : reply ≡ Refused memory_code

-- At a hub that opened with this value. Where `shut` is true, it is known that a reader's seat was
-- not let in to what is published.
module _ (opening : StoreValue (List RowView)) (shut : Bool) where
  -- The reader was shown nothing: its seat was not let in, or what is published is older than what
  -- the service has seen.
  pub record LacksReader (old : Serving) (reply : ReplyView) (new : Serving) : Type 0 where
    pub kept : new ≡ record old { groups = new.groups }
    pub later : IsPrefix old.groups new.groups
    pub unshown : ((shut ≡ true) × (new.groups ≡ old.groups)) ⊎ (place_after opening new.groups < old.seen)
    pub refused : reply ≡ Refused reader_code

  -- A lookup is answered with segments, or refused for memory or for a reader.
  abbrev pub LooksUp : Serving → QueryView → ReplyView → Serving → Type 0
  LooksUp old query reply new = RepliesWithSegments opening old query reply new ⊎ (LacksMemory opening old query reply new ⊎ LacksReader old reply new)

  -- The clock is asked for a lookup that was classified, and the lookup is answered at the moment
  -- that the clock gave.
  abbrev pub AnswersQuery : Serving → Result QueryView LookupError → ReplyView → Serving → Type 0
  AnswersQuery old (Ok query) reply new = LooksUp (at_moment old new.moment) query reply new
  AnswersQuery old (Err e) reply new = IsRefusedWithCode (lookup_code e) old reply new

  -- A lookup that was read is classified and answered.
  abbrev pub AnswersLookup : Serving → Result (ℕ × ℕ) SegError → ReplyView → Serving → Type 0
  AnswersLookup old (Ok ends) reply new = AnswersQuery old (query_of old.roster ends.0 ends.1) reply new
  AnswersLookup old (Err e) reply new = IsRefusedWithCode (seg_code e) old reply new

-- ---- lists

module _ (opening : StoreValue (List RowView)) where
  -- The page after an id, or the first one, that a query shows at a moment, of what a hub that
  -- opened with this value shows after these groups.
  abbrev pub page_of : List (List Command) → QueryView → Option (List ℕ) → ℕ → List RowView
  page_of groups query after moment = answer_after (shown_after opening groups).db query after moment

  -- Whether further rows follow that page.
  abbrev pub has_more_of : List (List Command) → QueryView → Option (List ℕ) → ℕ → Bool
  has_more_of groups query after moment = has_more (shown_after opening groups).db query after moment

  -- The reply has the page that the query shows, of what the reader was shown, and whether further
  -- segments follow.
  pub record RepliesWithPage (old : Serving) (query : QueryView) (after : Option (List ℕ)) (reply : ReplyView) (new : Serving) : Type 0 where
    pub looked : HasLooked opening old new
    pub replied : reply ≡ Listed (has_more_of new.groups query after new.moment) query.kind (segments_of (page_of new.groups query after new.moment))

  -- The page was refused memory.
  pub record LacksPageMemory (old : Serving) (query : QueryView) (after : Option (List ℕ)) (reply : ReplyView) (new : Serving) : Type 0 where
    pub looked : HasLooked opening old new
    pub some : 1 ≤ length (page_of new.groups query after new.moment)
    pub refused : reply ≡ Refused memory_code

module _ (opening : StoreValue (List RowView)) (shut : Bool) where
  -- A query is answered with a page, or refused for memory or for a reader.
  abbrev pub ShowsPage : Serving → QueryView → Option (List ℕ) → ReplyView → Serving → Type 0
  ShowsPage old query after reply new = RepliesWithPage opening old query after reply new ⊎ (LacksPageMemory opening old query after reply new ⊎ LacksReader opening shut old reply new)

  -- The clock is asked for a list whose type was read, and the list is answered at the moment that
  -- the clock gave.
  abbrev pub AnswersList : Serving → ListRequest → Result SegType SegError → ReplyView → Serving → Type 0
  AnswersList old request (Ok kind) reply new =
      ShowsPage (at_moment old new.moment) (record { kind = kind; start = request.start; end = request.end }) request.after reply new
  AnswersList old request (Err e) reply new = IsRefusedWithCode (seg_code e) old reply new

-- ---- messages

-- Memory may be refused where a registration is read, once its outline was read.
abbrev pub RegistrationLacksMemory : Serving → MessageView → ReplyView → Serving → Type 0
RegistrationLacksMemory old (Register body) reply new = IsRefusedWithCode memory_code old reply new × IsOk (registration_outline body)
RegistrationLacksMemory old _ reply new = ⊥

-- At a hub that opened with this value. It is known for which reasons its commands were refused, and
-- whether a reader's seat was not let in.
module _ (opening : StoreValue (List RowView)) (refused : Command → Option SubmitError → Bool) (shut : Bool) where
  -- One message is read, checked or classified, and passed to the hub. The first refusal is the
  -- reply.
  unfoldable pub IsAnswered : Serving → MessageView → ReplyView → Serving → Type 0
  IsAnswered old (Register body) reply new = AnswersRegistration opening refused old (registration_decoding body) reply new
  IsAnswered old (Lookup body) reply new = AnswersLookup opening shut old (request_decoding body) reply new
  IsAnswered old (Purge moment) reply new = AnswersCommand opening refused Purged old (command.Purge moment) reply new
  IsAnswered old (Remove kind id) reply new = AnswersRemoval opening refused old id (type_of kind) reply new
  IsAnswered old (message.List request) reply new = AnswersList opening shut old request (type_of request.kind) reply new

  -- What a service over the hub may answer to a message, and what the service is then.
  abbrev pub HubAnswers : Serving → MessageView → ReplyView → Serving → Type 0
  HubAnswers old message reply new = RegistrationLacksMemory old message reply new ⊎ IsAnswered old message reply new
