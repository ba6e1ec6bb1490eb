-- What a hub's readers and its showcase share between threads.
use denote.RattleType.{RattleType}
use denote.Param.Send.{IsSend, IsSync, sendable, recorded_send, struct_send}
use denote.Struct.Declared.{shape}
use Rattle.std.proofs.Crossing.{crosses}
use Rattle.std.proofs.MapsCrossing.{crosses as maps_cross}
use Rattle.std.proofs.MapsCrossingOver.{crosses as sets_cross}
use Rattle.left_right.proofs.part.Part.TheSendSync as part
use Rattle.left_right.proofs.part.Deed.TheSendSync as deed
use Rattle.atomic_table.proofs.shared.Seat.TheSendSync as seat
use Rattle.atomic_table.proofs.shared.Shared.TheSendSync as shared
use Rattle.atomic_table.proofs.send_lease.SendLease.TheSendSync as lease
use Rattle.command_log.specs.declared.name.LogName as named
use Rattle.command_log.proofs.Sent.{logged_send}
use Rattle.log_history.proofs.Sent.{history_send, past_send, past_sync}
use Rattle.ghost_note.proofs.note.Note.TheSendSync as ghost_note
use Rattle.logged_state.specs.declared.ghosts.name.StateName as opened
use Rattle.logged_state.specs.contracts.receipt.LoggedReceipt as LoggedReceipt
use Rattle.hub_readers.specs.declared.ghosts.name.ReaderName as reader
use Rattle.hub_readers.specs.contracts.look.Look as Look
use Rattle.hub_readers.specs.contracts.look.Looks as Looks
use Rattle.hub_readers.specs.contracts.note.HubNote as HubNote
use Rattle.hub_readers.specs.contracts.published.Published as Published
use Rattle.hub_readers.specs.contracts.published.ShownCommand as ShownCommand
use Rattle.hub_readers.specs.contracts.reader.HubReader as HubReader
use Rattle.hub_readers.specs.contracts.show.HubShow as HubShow
use Rattle.seg_core.specs.contracts.segment.Segment as Segment
use Rattle.row_map.specs.contracts.index_row.IndexRow as IndexRow
use Rattle.row_map.specs.contracts.index.EndIndex as EndIndex
use Rattle.row_map.specs.contracts.row.Row as Row
use Rattle.path_db.specs.contracts.command.Command as Command
use Rattle.path_db.specs.contracts.database.PathDb as PathDb

pub segment_send : IsSend Segment.the_row
segment_send = search (sendable, crosses) depth 60 fits 20000

segment_sync : IsSync Segment.the_row
segment_sync = search (sendable, crosses) depth 60 fits 20000

pub row_send : IsSend Row.the_row
row_send = search (sendable, crosses, segment_send) depth 60 fits 20000

row_sync : IsSync Row.the_row
row_sync = search (sendable, crosses, segment_sync) depth 60 fits 20000

index_row_send : IsSend IndexRow.the_row
index_row_send = search (sendable, crosses, segment_send) depth 60 fits 20000

index_row_sync : IsSync IndexRow.the_row
index_row_sync = search (sendable, crosses, segment_sync) depth 60 fits 20000

index_send : IsSend EndIndex.the_row
index_send = search (sendable, crosses, sets_cross, index_row_send) depth 30 fits 20000

index_sync : IsSync EndIndex.the_row
index_sync = search (sendable, crosses, sets_cross, index_row_sync) depth 30 fits 20000

pub db_send : IsSend PathDb.the_row
db_send = search (sendable, crosses, maps_cross, index_send, row_send) depth 30 fits 20000

db_sync : IsSync PathDb.the_row
db_sync = search (sendable, crosses, maps_cross, index_sync, row_sync) depth 30 fits 20000

published_send : IsSend Published.the_row
published_send = search (sendable, crosses, db_send, past_send) depth 20

published_sync : IsSync Published.the_row
published_sync = search (sendable, crosses, db_sync, past_sync) depth 20

pub command_send : IsSend Command.the_row
command_send = search (sendable, crosses, segment_send) depth 30 fits 20000

module _ (N : RattleType) (s : opened.Ghosts N.Denot) (l : named.Ghosts N.Denot) (n : IsSend N) where
  note_send : IsSend (HubNote.the_row N s l)
  note_send = search (sendable, crosses) depth 20

  pub receipt_send : IsSend (LoggedReceipt.the_row N (HubNote.the_row N s l) s l)
  receipt_send = search (sendable, crosses, note_send, logged_send) depth 30 fits 20000

command_field_send : IsSend (Command.the_field).row
command_field_send = search (sendable, crosses, segment_send) depth 60 fits 20000

shown_send : IsSend ShownCommand.the_row
shown_send = recorded_send _ _ _ ShownCommand.the_type.to_one (struct_send (shape ShownCommand.the_type) (command_field_send, (search (sendable, crosses, past_send) depth 20, tt)))

module _ (N : RattleType) (b : reader.Ghosts N.Denot) (s : opened.Ghosts N.Denot) (l : named.Ghosts N.Denot) (n : IsSend N) where
  pub look_send : IsSend (Look.the_row N b s l)
  look_send = search (sendable, crosses, past_send) depth 20

  pub looks_send : IsSend (Looks.the_row N b s l)
  looks_send = search (sendable, crosses, past_send, ghost_note.the_send) depth 30

module _ (N : RattleType) (b : reader.Ghosts N.Denot) (s : opened.Ghosts N.Denot) (l : named.Ghosts N.Denot) (n : IsSend N) (m : IsSync N) where
  pub reader_send : IsSend (HubReader.the_row N b s l)
  reader_send = search (sendable, crosses, past_send, published_send, published_sync, part.the_send, part.the_sync, deed.the_send, seat.the_send, shared.the_send, shared.the_sync, lease.the_send, lease.the_sync) depth 80 fits 50000

module _ (N R : RattleType) (b : reader.Ghosts N.Denot) (s : opened.Ghosts N.Denot) (l : named.Ghosts N.Denot) (n : IsSend N) (m : IsSync N) (r : IsSend R) where
  pub show_send : IsSend (HubShow.the_row N R b s l)
  show_send = search (sendable, crosses, history_send, published_send, published_sync, shown_send, part.the_send, part.the_sync, deed.the_send, seat.the_send, shared.the_send, shared.the_sync, lease.the_send, lease.the_sync) depth 80 fits 50000
