-- A service over a store in memory: what it holds, and what it answers to a message.
use Rattle.std.specs.Prelude.{◌≡◌, ℕ, ◌+◌, ◌-◌, ◌*◌, ◌^◌, ◌⊎◌, Bool, List, [], ◌==◌, nat_le, if◌then◌else◌, Option, Some, None, Result, Ok, Err, IsOk}
use Rattle.seg_core.specs.declared.error.SegError.{SegError}
use Rattle.seg_core.specs.declared.seg_type.SegType.{SegType}
use Rattle.seg_core.specs.Request.{request_decoding}
use Rattle.seg_core.specs.Registration.{registration_outline, registration_decoding, type_of}
use Rattle.seg_check.specs.declared.error.CheckError.{CheckError}
use Rattle.seg_check.specs.Signatures.{Verdicts}
use Rattle.seg_check.specs.Checking.{first_refusal}
use Rattle.group_core.specs.declared.submit_error.SubmitError.TheVariants.{Full, Exhausted}
use Rattle.path_db.specs.declared.command.Command.{Command}
use Rattle.path_db.specs.declared.command.Command.TheVariants as command
use Rattle.row_map.specs.Database.{RowView, rows_len}
use Rattle.path_db.specs.Command.{database_after, outcome_of}
use Rattle.path_db.specs.Answer.{segments_of}
use Rattle.seg_lookup.specs.declared.error.LookupError.{LookupError}
use Rattle.seg_lookup.specs.Roster.{RosterView}
use Rattle.seg_lookup.specs.Query.{QueryView}
use Rattle.seg_lookup.specs.Classification.{query_of}
use Rattle.seg_lookup.specs.Answer.{answer_to}
use Rattle.session_core.specs.declared.message.Message.TheVariants.{Register, Lookup, Purge, Remove}
use Rattle.session_core.specs.declared.message.Message.TheVariants as message
use Rattle.session_core.specs.declared.service.Ack.{Ack}
use Rattle.session_core.specs.Frames.{MessageView}
use Rattle.session_core.specs.Reply.{ReplyView, Registered, Found, Purged, Removed, Refused}
use Rattle.reply_codes.specs.Codes.{memory_code, stopped_code, seg_code, check_code, lookup_code, submit_code}
use Rattle.store_layout.specs.declared.format.TheConstants.{BEFORE_ROWS}

-- A service over a store in memory.
pub record Served : Type 0 where
  -- The core ASes, which do not change.
  pub roster : RosterView
  -- The verdicts on signatures, which do not change.
  pub verifies : Verdicts
  -- The moment, in half seconds since 1970, which does not change.
  pub now : ℕ
  -- The rows of the database.
  pub rows : List RowView
  -- The place of the next command.
  pub place : ℕ

-- A service begins with no rows, at place 0.
abbrev pub opening : RosterView → Verdicts → ℕ → Served
opening roster verifies now = record { roster = roster; verifies = verifies; now = now; rows = []; place = 0 }

-- ---- one message

-- A reply, and what the service holds after it.
abbrev pub Step : Type 0
Step = ReplyView × Served

-- A refusal, which changes nothing.
abbrev pub refused_step : Served → ℕ → Step
refused_step served code = (Refused code, served)

-- What the service holds after a command was taken.
abbrev pub after_command : Served → Command → Served
after_command served c = record served { rows = database_after served.rows c; place = served.place + 1 }

-- The acknowledgement of a command.
abbrev pub ack_of : Served → Command → Ack
ack_of served c = record { place = served.place; outcome = outcome_of served.rows c }

-- Whether rows have room in a checkpoint area of 4,096 sectors.
abbrev pub fits_store : List RowView → Bool
fits_store rows = nat_le (BEFORE_ROWS + rows_len rows) (512 * 4096)

-- The step of a command, which takes the next place. The last number of 64 bits is not a place, and
-- the rows after the command have to fit.
abbrev pub command_step : (Ack → ReplyView) → Served → Command → Step
command_step taken served c =
    if served.place == 2 ^ 64 - 1 then refused_step served (submit_code Exhausted)
    else if fits_store (database_after served.rows c) then (taken (ack_of served c), after_command served c)
    else refused_step served (submit_code Full)

-- The step of a registration whose segments were checked.
abbrev pub checked_step : Served → List RowView → Option CheckError → Step
checked_step served new None = command_step Registered served (command.Register new)
checked_step served new (Some e) = refused_step served (check_code e)

-- The step of a registration, once its body is read.
abbrev pub registration_step : Served → Result (List RowView) SegError → Step
registration_step served (Ok new) = checked_step served new (first_refusal served.verifies served.now new)
registration_step served (Err e) = refused_step served (seg_code e)

-- The step of a removal, once its type is read.
abbrev pub removal_step : Served → List ℕ → Result SegType SegError → Step
removal_step served id (Ok kind) = command_step Removed served (command.Remove kind id)
removal_step served id (Err e) = refused_step served (seg_code e)

-- The step of a lookup that was classified.
abbrev pub query_step : Served → Result QueryView LookupError → Step
query_step served (Ok query) = (Found query.kind (segments_of (answer_to served.rows query served.now)), served)
query_step served (Err e) = refused_step served (lookup_code e)

-- The step of a lookup, once its body is read.
abbrev pub lookup_step : Served → Result (ℕ × ℕ) SegError → Step
lookup_step served (Ok ends) = query_step served (query_of served.roster ends.0 ends.1)
lookup_step served (Err e) = refused_step served (seg_code e)

-- One message is read, checked or classified, and applied. The first refusal is the reply. A list
-- is refused: no session without lists has one.
unfoldable pub message_step : Served → MessageView → Step
message_step served (Register body) = registration_step served (registration_decoding body)
message_step served (Lookup body) = lookup_step served (request_decoding body)
message_step served (Purge moment) = command_step Purged served (command.Purge moment)
message_step served (Remove kind id) = removal_step served id (type_of kind)
message_step served (message.List request) = refused_step served stopped_code

-- ---- refused memory

-- The reply shows segments, or that there are none.
abbrev pub ShowsLookup : ReplyView → Type 0
ShowsLookup (Found kind segments) = Unit {0}
ShowsLookup _ = ⊥

-- Memory may be refused for a message. A registration whose outline is refused, a removal whose
-- type is none, a lookup that asks for no segments, and a list take no memory.
abbrev pub MayRunOut : Served → MessageView → Type 0
MayRunOut served (Register body) = IsOk (registration_outline body)
MayRunOut served (Lookup body) = ShowsLookup (message_step served (Lookup body)).0
MayRunOut served (Purge moment) = Unit {0}
MayRunOut served (Remove kind id) = IsOk (type_of kind)
MayRunOut served (message.List request) = ⊥

-- The message was refused memory. Nothing changed, or its command was taken and the outcome is not
-- reported.
pub record IsRefusedMemory (old : Served) (message : MessageView) (reply : ReplyView) (new : Served) : Type 0 where
  pub refused : reply ≡ Refused memory_code
  pub may : MayRunOut old message
  pub left : (new ≡ old) ⊎ (new ≡ (message_step old message).1)

-- The message was answered by its step.
pub record IsMessageStep (old : Served) (message : MessageView) (reply : ReplyView) (new : Served) : Type 0 where
  pub replied : reply ≡ (message_step old message).0
  pub left : new ≡ (message_step old message).1

-- What the service may answer to a message, and what it holds then.
abbrev pub Answers : Served → MessageView → ReplyView → Served → Type 0
Answers old message reply new = IsRefusedMemory old message reply new ⊎ IsMessageStep old message reply new
