-- What is said and printed of the replies to requests.
use Rattle.std.specs.Prelude.{◌≡◌, ℕ, List, Option, None, Some, unwrap_or}
use Rattle.std.specs.Io.KnownBytes.{Appends}
use Rattle.isd_as.specs.IsdAs.{isd_as_number}
use Rattle.row_lines.specs.declared.form.RowForm.{RowForm}
use Rattle.seg_core.specs.Registration.{type_number}
use Rattle.seg_core.specs.SegmentView.{SegmentView}
use Rattle.seg_core.specs.declared.seg_type.SegType.{SegType}
use Rattle.session_core.specs.Frames.{MessageView}
use Rattle.session_core.specs.Reply.{ReplyView, Found, Purged, Removed}
use Rattle.session_core.specs.declared.message.Message.TheVariants as message
use Rattle.session_core.specs.declared.reply.Reply.{Reply}
use Rattle.session_core.specs.declared.reply.Reply.TheVariants as reply
use Rattle.session_core.specs.declared.service.Ack.{Ack}
use Rattle.cli_ask.specs.declared.asking.Answer.{Answer}
use Rattle.cli_ask.specs.declared.asking.Answer.TheVariants.{Whole}
use Rattle.cli_ask.specs.declared.error.AskError.{AskError}
use Rattle.cli_ask.specs.declared.error.AskError.TheVariants as error
use Rattle.cli_ask.specs.declared.question.Question.{Question}
use Rattle.cli_ask.specs.declared.question.Question.TheVariants as question
use Rattle.cli_ask.specs.Lines.{ack_line, found_lines, answer_of}
use Rattle.cli_ask.specs.Pages.{HasListedAll, kinds_of}
use Rattle.cli_ask.specs.Purging.{HasPurged}
use Rattle.cli_ask.specs.Requests.{request_encoding}
use Rattle.cli_ask.specs.Talk.{Byte, Passes, exchange_of}

-- What is said of a reply in its place, if it is a refusal.
abbrev pub refusal_of : Reply Ack → Option AskError
refusal_of (reply.Refused code) = Some (error.Refused code.0)
refusal_of taken = None

-- A command was sent, this kind of acknowledgement came, and its line was printed.
pub record HasAcknowledged (talk talk_after : Option (List Byte)) (output output_after : Option (List ℕ)) (form : RowForm) (message : MessageView) (reply : Ack → ReplyView) : Type 0 where
  pub ack : Ack
  pub passed : Passes talk talk_after (exchange_of message (reply ack))
  pub printed : Appends output output_after (ack_line form ack)

-- A lookup was sent, what it found came, and the lines of that were printed.
pub record HasFound (talk talk_after : Option (List Byte)) (output output_after : Option (List ℕ)) (form : RowForm) (message : MessageView) (answer : Answer) : Type 0 where
  pub kind : SegType
  pub segments : List SegmentView
  pub passed : Passes talk talk_after (exchange_of message (Found kind segments))
  pub printed : Appends output output_after (found_lines form kind segments)
  pub answer_is : answer ≡ answer_of segments

-- What has passed and was printed where a question has this answer.
abbrev pub IsAnswered : Option (List Byte) → Option (List Byte) → Option (List ℕ) → Option (List ℕ) → RowForm → ℕ → Question → Answer → Type 0
IsAnswered talk talk_after output output_after form now (question.Lookup source destination) answer =
    HasFound talk talk_after output output_after form (message.Lookup (request_encoding (isd_as_number source) (isd_as_number destination))) answer
IsAnswered talk talk_after output output_after form now (question.List kind start end) answer =
    HasListedAll talk talk_after output output_after form (start, end) (kinds_of kind) × (answer ≡ Whole)
IsAnswered talk talk_after output output_after form now (question.Purge moment) answer =
    HasPurged talk talk_after output output_after form (unwrap_or moment now) × (answer ≡ Whole)
IsAnswered talk talk_after output output_after form now (question.PurgeAtOnce moment) answer =
    HasAcknowledged talk talk_after output output_after form (message.Purge (unwrap_or moment now)) Purged × (answer ≡ Whole)
IsAnswered talk talk_after output output_after form now (question.Remove kind id) answer =
    HasAcknowledged talk talk_after output output_after form (message.Remove (type_number kind) id) Removed × (answer ≡ Whole)
