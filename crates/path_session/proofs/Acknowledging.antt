-- Each acknowledgement of a session is of the command that its claim names.
use Rattle.std.proofs.Common.{◌≡◌, inl, inr, ℕ, Bool, List, [], ◌∷◌, ◌++◌, Option, Some, None, Result, Ok, Err, refl, sym, ap, ◌∙◌, subst}
use Rattle.std.proofs.lemmas.List.{append-nil, append_assoc}
use Rattle.seg_core.specs.declared.error.SegError.{SegError}
use Rattle.seg_core.specs.declared.seg_type.SegType.{SegType}
use Rattle.seg_core.specs.Registration.{registration_decoding, type_of}
use Rattle.seg_core.specs.Request.{request_decoding}
use Rattle.seg_check.specs.declared.error.CheckError.{CheckError}
use Rattle.seg_check.specs.Checking.{first_refusal}
use Rattle.path_db.specs.declared.command.Command.{Command}
use Rattle.path_db.specs.declared.command.Command.TheVariants as command
use Rattle.row_map.specs.Database.{RowView}
use Rattle.seg_lookup.specs.declared.error.LookupError.{LookupError}
use Rattle.seg_lookup.specs.Query.{QueryView}
use Rattle.seg_lookup.specs.Classification.{query_of}
use Rattle.store_layout.specs.Opening.{StoreValue}
use Rattle.group_core.specs.declared.submit_error.SubmitError.{SubmitError}
use Rattle.command_log.specs.declared.rule.Claim.{Claim}
use Rattle.session_core.specs.declared.list_request.ListRequest.{ListRequest}
use Rattle.session_core.specs.declared.message.Message.TheVariants.{Register, Lookup, Purge, Remove}
use Rattle.session_core.specs.declared.message.Message.TheVariants as message
use Rattle.session_core.specs.declared.service.Ack.{Ack}
use Rattle.session_core.specs.Frames.{MessageView}
use Rattle.session_core.specs.Reply.{ReplyView, Registered, Purged, Removed}
use Rattle.session_core.specs.Service.{Exchange, AreAnswered}
use Rattle.reply_codes.specs.Codes.{memory_code, stopped_code, not_awaited_code, seg_code, check_code, lookup_code, submit_code}
use Rattle.path_session.specs.Serving.{Serving, at_moment, with_left}
use Rattle.path_session.specs.Answered.{IsRefusedWithCode, AnswersCommand, AnswersChecked, AnswersRegistration, AnswersRemoval, LooksUp, AnswersQuery, AnswersLookup, ShowsPage, AnswersList, RegistrationLacksMemory, IsAnswered, HubAnswers}
use Rattle.path_session.specs.Acknowledged.{ack_in, IsReadAs, Acknowledges, FirstIsClaimed, AreClaimed}

module _ (opening : StoreValue (List RowView)) where
  -- the claim of an acknowledgement is kept with those before, and another reply has none
  abbrev pub Keeps : List Claim → MessageView → Option Ack → List Claim → Type 0
  Keeps before message None after = after ≡ before
  Keeps before message (Some ack) after = (claim : Claim) × (after ≡ before ++ claim ∷ []) × Acknowledges opening message ack claim

module _ (opening : StoreValue (List RowView)) (refused : Command → Option SubmitError → Bool) (shut : Bool) where
  refusal_keeps : (code : ℕ) (old : Serving) (message : MessageView) (reply : ReplyView) (new : Serving) → IsRefusedWithCode code old reply new → Keeps opening old.acknowledged message (ack_in reply) new.acknowledged
  refusal_keeps code old message reply new r = subst (λ (x : ReplyView). Keeps opening old.acknowledged message (ack_in x) new.acknowledged) (sym r.0) (ap (λ (s : Serving). s.acknowledged) r.1)

  command_keeps : (taken : Ack → ReplyView) → ((a : Ack) → ack_in (taken a) ≡ Some a) → (message : MessageView) (old : Serving) (c : Command) (reply : ReplyView) (new : Serving)
      → IsReadAs message c → AnswersCommand opening refused taken old c reply new → Keeps opening old.acknowledged message (ack_in reply) new.acknowledged
  command_keeps taken is_ack message old c reply new read (inl a) =
      let ack : ack_in reply ≡ Some a.ack = ap ack_in a.replied ∙ is_ack a.ack in
      let claim = a.committed.receipt.logged in
      let known : Keeps opening old.acknowledged message (Some a.ack) new.acknowledged = (
        claim,
        ap (λ (s : Serving). s.acknowledged) a.committed.kept,
        record { command = subst (IsReadAs message) (sym a.committed.shows) read; place = a.committed.place ∙ a.committed.counts },
      ) in
      subst (λ (o : Option Ack). Keeps opening old.acknowledged message o new.acknowledged) (sym ack) known
  command_keeps taken is_ack message old c reply new read (inr (inl b)) = refusal_keeps (submit_code b.why) (with_left old new.left) message reply new b.refusal.replied
  command_keeps taken is_ack message old c reply new read (inr (inr (inl b))) = refusal_keeps stopped_code (with_left old new.left) message reply new b.replied
  command_keeps taken is_ack message old c reply new read (inr (inr (inr b))) = refusal_keeps not_awaited_code (with_left old new.left) message reply new b.replied

  checked_keeps : (body : List ℕ) (rows : List RowView) → registration_decoding body ≡ Ok rows → (old : Serving) (judged : Option CheckError) (reply : ReplyView) (new : Serving)
      → AnswersChecked opening refused old rows judged reply new → Keeps opening old.acknowledged (Register body) (ack_in reply) new.acknowledged
  checked_keeps body rows is old None reply new a =
      command_keeps (λ ack. Registered ack) (λ _. refl) (Register body) old (command.Register rows) reply new (record { rows = rows; read = is; is = refl }) a
  checked_keeps body rows is old (Some e) reply new a = refusal_keeps (check_code e) old (Register body) reply new a

  registration_keeps : (body : List ℕ) (old : Serving) (read : Result (List RowView) SegError) → registration_decoding body ≡ read → (reply : ReplyView) (new : Serving)
      → AnswersRegistration opening refused old read reply new → Keeps opening old.acknowledged (Register body) (ack_in reply) new.acknowledged
  registration_keeps body old (Ok rows) is reply new a = checked_keeps body rows is (at_moment old new.moment) (first_refusal old.verifies new.moment rows) reply new a
  registration_keeps body old (Err e) is reply new a = refusal_keeps (seg_code e) old (Register body) reply new a

  removal_keeps : (number : ℕ) (id : List ℕ) (old : Serving) (read : Result SegType SegError) → type_of number ≡ read → (reply : ReplyView) (new : Serving)
      → AnswersRemoval opening refused old id read reply new → Keeps opening old.acknowledged (Remove number id) (ack_in reply) new.acknowledged
  removal_keeps number id old (Ok kind) is reply new a =
      command_keeps (λ ack. Removed ack) (λ _. refl) (Remove number id) old (command.Remove kind id) reply new (record { kind = kind; read = is; is = refl }) a
  removal_keeps number id old (Err e) is reply new a = refusal_keeps (seg_code e) old (Remove number id) reply new a

  looking_keeps : (body : List ℕ) (old : Serving) (query : QueryView) (reply : ReplyView) (new : Serving) → LooksUp opening shut old query reply new → Keeps opening old.acknowledged (Lookup body) (ack_in reply) new.acknowledged
  looking_keeps body old query reply new (inl a) = subst (λ (x : ReplyView). Keeps opening old.acknowledged (Lookup body) (ack_in x) new.acknowledged) (sym a.replied) (ap (λ (s : Serving). s.acknowledged) a.looked.kept)
  looking_keeps body old query reply new (inr (inl a)) = subst (λ (x : ReplyView). Keeps opening old.acknowledged (Lookup body) (ack_in x) new.acknowledged) (sym a.refused) (ap (λ (s : Serving). s.acknowledged) a.looked.kept)
  looking_keeps body old query reply new (inr (inr a)) = subst (λ (x : ReplyView). Keeps opening old.acknowledged (Lookup body) (ack_in x) new.acknowledged) (sym a.refused) (ap (λ (s : Serving). s.acknowledged) a.kept)

  query_keeps : (body : List ℕ) (old : Serving) (query : Result QueryView LookupError) (reply : ReplyView) (new : Serving) → AnswersQuery opening shut old query reply new → Keeps opening old.acknowledged (Lookup body) (ack_in reply) new.acknowledged
  query_keeps body old (Ok query) reply new a = looking_keeps body (at_moment old new.moment) query reply new a
  query_keeps body old (Err e) reply new a = refusal_keeps (lookup_code e) old (Lookup body) reply new a

  lookup_keeps : (body : List ℕ) (old : Serving) (read : Result (ℕ × ℕ) SegError) (reply : ReplyView) (new : Serving) → AnswersLookup opening shut old read reply new → Keeps opening old.acknowledged (Lookup body) (ack_in reply) new.acknowledged
  lookup_keeps body old (Ok ends) reply new a = query_keeps body old (query_of old.roster ends.0 ends.1) reply new a
  lookup_keeps body old (Err e) reply new a = refusal_keeps (seg_code e) old (Lookup body) reply new a

  page_keeps : (request : ListRequest) (old : Serving) (query : QueryView) (after : Option (List ℕ)) (reply : ReplyView) (new : Serving) → ShowsPage opening shut old query after reply new → Keeps opening old.acknowledged (message.List request) (ack_in reply) new.acknowledged
  page_keeps request old query after reply new (inl a) = subst (λ (x : ReplyView). Keeps opening old.acknowledged (message.List request) (ack_in x) new.acknowledged) (sym a.replied) (ap (λ (s : Serving). s.acknowledged) a.looked.kept)
  page_keeps request old query after reply new (inr (inl a)) = subst (λ (x : ReplyView). Keeps opening old.acknowledged (message.List request) (ack_in x) new.acknowledged) (sym a.refused) (ap (λ (s : Serving). s.acknowledged) a.looked.kept)
  page_keeps request old query after reply new (inr (inr a)) = subst (λ (x : ReplyView). Keeps opening old.acknowledged (message.List request) (ack_in x) new.acknowledged) (sym a.refused) (ap (λ (s : Serving). s.acknowledged) a.kept)

  list_keeps : (request : ListRequest) (old : Serving) (read : Result SegType SegError) (reply : ReplyView) (new : Serving) → AnswersList opening shut old request read reply new → Keeps opening old.acknowledged (message.List request) (ack_in reply) new.acknowledged
  list_keeps request old (Ok kind) reply new a = page_keeps request (at_moment old new.moment) (record { kind = kind; start = request.start; end = request.end }) request.after reply new a
  list_keeps request old (Err e) reply new a = refusal_keeps (seg_code e) old (message.List request) reply new a

  memory_keeps : (old : Serving) (message : MessageView) (reply : ReplyView) (new : Serving) → RegistrationLacksMemory old message reply new → Keeps opening old.acknowledged message (ack_in reply) new.acknowledged
  memory_keeps old (Register body) reply new a = refusal_keeps memory_code old (Register body) reply new a.0
  memory_keeps old (Lookup body) reply new a = absurd a
  memory_keeps old (Purge moment) reply new a = absurd a
  memory_keeps old (Remove number id) reply new a = absurd a
  memory_keeps old (message.List request) reply new a = absurd a

  -- one message
  pub answer_keeps : (old : Serving) (message : MessageView) (reply : ReplyView) (new : Serving) → HubAnswers opening refused shut old message reply new → Keeps opening old.acknowledged message (ack_in reply) new.acknowledged
  unfolding IsAnswered
  answer_keeps old message reply new (inl a) = memory_keeps old message reply new a
  answer_keeps old (Register body) reply new (inr a) = registration_keeps body old (registration_decoding body) refl reply new a
  answer_keeps old (Lookup body) reply new (inr a) = lookup_keeps body old (request_decoding body) reply new a
  answer_keeps old (Purge moment) reply new (inr a) = command_keeps (λ ack. Purged ack) (λ _. refl) (Purge moment) old (command.Purge moment) reply new refl a
  answer_keeps old (Remove number id) reply new (inr a) = removal_keeps number id old (type_of number) refl reply new a
  answer_keeps old (message.List request) reply new (inr a) = list_keeps request old (type_of request.kind) reply new a

-- of a service of whose answers each keeps the claim of its acknowledgement
module _ {S : Type 0} (opening : StoreValue (List RowView)) (answers : S → MessageView → ReplyView → S → Type 0) (claims_of : S → List Claim)
    (keeps : (old : S) (message : MessageView) (reply : ReplyView) (new : S) → answers old message reply new → Keeps opening (claims_of old) message (ack_in reply) (claims_of new)) where
  -- claims that came after others
  abbrev Adds : List Exchange → List Claim → List Claim → Type 0
  Adds exchanges before after = (claims : List Claim) × (after ≡ before ++ claims) × AreClaimed opening exchanges claims

  -- one message, and then others
  adds_first : (exchange : Exchange) (exchanges : List Exchange) (ack : Option Ack) (old next after : List Claim)
      → Keeps opening old exchange.message ack next → Adds exchanges next after
      → (claims : List Claim) × (after ≡ old ++ claims) × FirstIsClaimed opening exchange.message ack (AreClaimed opening exchanges) claims
  adds_first exchange exchanges None old next after same more = (more.0, more.1 ∙ ap (λ (l : List Claim). l ++ more.0) same, more.2)
  adds_first exchange exchanges (Some ack) old next after kept more =
      (kept.0 ∷ more.0, more.1 ∙ ap (λ (l : List Claim). l ++ more.0) kept.1 ∙ append_assoc old (kept.0 ∷ []) more.0, (kept.2, more.2))

  answers_add : (old : S) (exchanges : List Exchange) (new : S) → AreAnswered answers old exchanges new → Adds exchanges (claims_of old) (claims_of new)
  answers_add old [] new done = ([], sym (ap claims_of done) ∙ sym (append-nil (claims_of old)), refl)
  answers_add old (exchange ∷ exchanges) new a =
      let first = keeps old exchange.message exchange.reply a.0 a.1 in
      adds_first exchange exchanges (ack_in exchange.reply) (claims_of old) (claims_of a.0) (claims_of new) first (answers_add a.0 exchanges new a.2)

  -- a session that began with no claim has those of its acknowledgements
  pub are_claimed : (old : S) (exchanges : List Exchange) (new : S) → claims_of old ≡ [] → AreAnswered answers old exchanges new → AreClaimed opening exchanges (claims_of new)
  are_claimed old exchanges new none answered =
      let added = answers_add old exchanges new answered in
      let all : claims_of new ≡ added.0 = added.1 ∙ ap (λ (l : List Claim). l ++ added.0) none in
      subst (AreClaimed opening exchanges) (sym all) added.2
