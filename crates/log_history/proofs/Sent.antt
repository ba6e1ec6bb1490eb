-- A log's history and past logs go from one thread to another.
use denote.Builtin.{u64}
use denote.Param.Send.{IsSend, IsSync, sendable}
use Rattle.std.proofs.Crossing.{crosses}
use Rattle.logbook.proofs.tokens.Seen.TheSendSync as seen
use Rattle.logbook.proofs.tokens.Pen.TheSendSync as pen
use Rattle.logbook.proofs.word.Word.TheSendSync as word
use Rattle.log_history.specs.contracts.history.LogHistory as LogHistory
use Rattle.log_history.specs.contracts.history.PastLog as PastLog

pub history_send : IsSend LogHistory.the_row
history_send = search (sendable, crosses, seen.the_send, pen.the_send, word.the_send) depth 30

pub past_send : IsSend PastLog.the_row
past_send = search (sendable, crosses, seen.the_send) depth 20

pub past_sync : IsSync PastLog.the_row
past_sync = search (sendable, crosses, seen.the_sync) depth 20
