-- What a hub shares between threads.
use denote.RattleType.{RattleType}
use denote.Param.Send.{IsSend, IsSync, sendable, recorded_send, recorded_sync, struct_send, struct_sync, enum_send, view_send}
use denote.Struct.Declared.{shape}
use denote.Enum.Declared.{shape as enum_shape}
use Rattle.std.proofs.Crossing.{crosses, Deque-send}
use Rattle.std.specs.contracts.sync.Mutex as Mutex
use Rattle.std.specs.contracts.sync.Arc as Arc
use Rattle.std.specs.contracts.collections.VecDeque as VecDeque
use Rattle.std.specs.contracts.option.Option as Option
use Rattle.std.specs.contracts.vec.Vec as Vec
use Rattle.std.specs.contracts.alloc.Global as Global
use Rattle.std.specs.contracts.impls.GlobalAllocator.TheImpl as heap
use Rattle.command_queue.specs.declared.history.QueueName as queue
use Rattle.command_queue.specs.contracts.queue.CommandQueue as CommandQueue
use Rattle.command_queue.specs.contracts.sender.EndedSenders as EndedSenders
use Rattle.command_queue.proofs.Sent.{claim_send, ended_send, queue_send, senders_sync, submitted_send}
use Rattle.std.specs.declared.sync.Wait as wait
use Rattle.atomic_table.proofs.shared.Seat.TheSendSync as seat
use Rattle.atomic_table.proofs.shared.Shared.TheSendSync as shared
use Rattle.atomic_table.proofs.send_lease.SendLease.TheSendSync as lease
use Rattle.hub_waits.specs.contracts.status.HubStatus as HubStatus
use Rattle.sector_dev.specs.declared.device.Device as device
use Rattle.command_log.specs.declared.name.LogName as named
use Rattle.command_log.specs.contracts.gathering.LoggedList as LoggedList
use Rattle.command_log.specs.contracts.gathering.ClaimCollector as ClaimCollector
use Rattle.command_log.proofs.Sent.{accepted_send, list_send, log_send}
use Rattle.logged_state.specs.declared.ghosts.name.StateName as opened
use Rattle.logged_state.specs.contracts.state.LoggedState as LoggedState
use Rattle.hub_readers.specs.declared.ghosts.name.ReaderName as reader
use Rattle.hub_readers.specs.contracts.look.Looks as Looks
use Rattle.hub_readers.specs.contracts.reader.HubReader as HubReader
use Rattle.hub_readers.proofs.Sent.{row_send, db_send, command_send, looks_send, reader_send, show_send}
use Rattle.hub_claims.specs.contracts.answer.Slot as Slot
use Rattle.hub_claims.proofs.Sent.{slots_send}
use Rattle.path_hub.specs.contracts.guarded.Locked as Locked
use Rattle.path_hub.specs.contracts.handing.UnderWay as UnderWay
use Rattle.rising_map.specs.contracts.map.RisingMap as RisingMap
use Rattle.ckpt_stream.specs.contracts.rewrite.Rewrite as Rewrite
use Rattle.ckpt_stream.specs.contracts.merge.Merge as Merge
use Rattle.ghost_note.proofs.note.Note.TheSendSync as note
use Rattle.ckpt_stream.specs.contracts.plan.Plan as Plan
use Rattle.ckpt_stream.specs.contracts.planner.Planner as Planner
use Rattle.ckpt_stream.specs.contracts.settling.Settling as Settling
use Rattle.gate_journal.specs.contracts.scanner.Scan as Scan
use Rattle.gate_journal.specs.contracts.scanner.Scanner as Scanner
use Rattle.ckpt_pair.specs.contracts.reading.Front as Front
use Rattle.ckpt_pair.specs.contracts.row_stream.RowStream as RowStream
use Rattle.ckpt_stream.specs.contracts.old_journal.JournalRead as JournalRead
use Rattle.ckpt_stream.specs.contracts.old_rows.RowsRead as RowsRead
use Rattle.ckpt_stream.specs.contracts.half_read.RowsSettled as RowsSettled
use Rattle.ckpt_stream.specs.contracts.half_read.PlannedRows as PlannedRows
use Rattle.ckpt_stream.specs.contracts.half_read.HalfRead as HalfRead
use Rattle.ckpt_stream.specs.contracts.preparation.Preparation as Preparation
use Rattle.group_core.specs.declared.showcase.Showcase as show
use Rattle.group_core.specs.contracts.state.State as State
use Rattle.path_hub.specs.contracts.hub.Hub as Hub
use Rattle.path_hub.specs.contracts.workload.OpenHub as OpenHub

-- what puts claims together
collector_sync : (N : RattleType) (l : named.Ghosts N.Denot) → IsSync N → IsSync (ClaimCollector.the_field N l).row
collector_sync N l m = struct_sync (shape (ClaimCollector.the_type N l))
    (search (sendable, crosses, seat.the_send, shared.the_send, shared.the_sync, lease.the_send, lease.the_sync) depth 60 fits 20000, (search (sendable, crosses) depth 20, tt))

-- claims that were put together, under a lock
acknowledged_sync : (N : RattleType) (l : named.Ghosts N.Denot) → IsSend N → IsSync (Mutex.the_row (LoggedList.the_row N l))
acknowledged_sync N l n = search (crosses, list_send) depth 12

module _ (N : RattleType) (b : reader.Ghosts N.Denot) (s : opened.Ghosts N.Denot) (l : named.Ghosts N.Denot) (q : queue.Ghosts N.Denot) (n : IsSend N) where
  under_way_send : IsSend (UnderWay.the_row N b s l q)
  under_way_send =
      recorded_send _ _ _ (UnderWay.the_type N b s l q).to_one (struct_send (shape (UnderWay.the_type N b s l q)) (search (sendable, crosses) depth 30 fits 20000, (claim_send N q n, (accepted_send N l n, (slots_send N b s l q n, tt)))))

  pub queue_sync : IsSync (Mutex.the_row (CommandQueue.the_row N (Arc.the_row (Slot.the_row N b s l q) Global.the_row heap.ghosts) q))
  queue_sync =
      let slots = Arc.the_row (Slot.the_row N b s l q) Global.the_row heap.ghosts in
      let queue : IsSend (CommandQueue.the_row N slots q) = recorded_send _ _ _ (CommandQueue.the_type N slots q).to_one (queue_send N slots q n (slots_send N b s l q n)) in search crosses

  all_under_way_send : IsSend (VecDeque.the_row (UnderWay.the_row N b s l q) Global.the_row heap.ghosts)
  all_under_way_send = Deque-send (UnderWay.the_row N b s l q) under_way_send

kept_send : (V : RattleType) → IsSend V → IsSend (RisingMap.the_row V)
kept_send V v = search (sendable, crosses) depth 20

rewrite_send : IsSend Rewrite.the_row
rewrite_send = search (sendable, crosses, row_send) depth 60 fits 20000

merge_send : IsSend Merge.the_row
merge_send = search (view_send, recorded_send, struct_send, sendable, crosses, rewrite_send, note.the_send) depth 80 fits 50000

front_send : IsSend (Front.the_field).row
front_send = search (sendable, crosses) depth 60 fits 20000

scan_send : IsSend (Scan.the_field).row
scan_send = search (sendable, crosses, command_send) depth 60 fits 20000

scanner_send : IsSend Scanner.the_row
scanner_send = search (sendable, crosses, command_send) depth 60 fits 20000

plan_send : IsSend (Plan.the_field).row
plan_send = search (sendable, crosses, row_send) depth 60 fits 20000

planner_send : IsSend (Planner.the_field).row
planner_send = search (sendable, crosses, db_send) depth 60 fits 20000

settling_send : IsSend (Settling.the_field).row
settling_send = search (sendable, crosses, db_send, command_send, row_send) depth 60 fits 20000

stream_send : IsSend RowStream.the_row
stream_send = search (sendable, crosses) depth 60 fits 20000

journal_read_send : IsSend (JournalRead.the_field).row
journal_read_send = struct_send (shape JournalRead.the_type) (front_send, (search (sendable, crosses), (scanner_send, tt)))

rows_read_send : IsSend (RowsRead.the_field).row
rows_read_send =
    struct_send (shape RowsRead.the_type)
    (front_send, (scan_send, (search (sendable, crosses), (planner_send, (stream_send, (search note.the_send, (search (sendable, crosses) depth 20, (search (sendable, crosses), tt))))))))

rows_settled_send : IsSend (RowsSettled.the_field).row
rows_settled_send =
    struct_send (shape RowsSettled.the_type)
    (front_send, (search (sendable, crosses), (settling_send, (search note.the_send, (search note.the_send, (search (sendable, crosses) depth 20, tt))))))

planned_rows_send : IsSend (PlannedRows.the_field).row
planned_rows_send =
    struct_send (shape PlannedRows.the_type)
    (front_send, (search (sendable, crosses), (plan_send, (search note.the_send, (search note.the_send, (search (sendable, crosses) depth 20, tt))))))

half_read_send : IsSend (HalfRead.the_field).row
half_read_send =
    enum_send (enum_shape HalfRead.the_type)
    (tt, ((journal_read_send, tt), ((rows_read_send, tt), ((rows_settled_send, tt), ((planned_rows_send, tt), tt)))))

preparation_send : IsSend Preparation.the_row
preparation_send = search (sendable, crosses, half_read_send) depth 60 fits 20000

module _ (D S M : RattleType) (d : device.Ghosts D.Denot) (g : show.Ghosts S.Denot M.Denot) (e : IsSend D) (t : IsSend S) where
  state_send : IsSend (State.the_row D S M d g)
  state_send = search (sendable, crosses, kept_send, db_send, command_send, merge_send, preparation_send) depth 60 fits 20000

module _ (D S N M : RattleType) (d : device.Ghosts D.Denot) (g : show.Ghosts S.Denot M.Denot) (s : opened.Ghosts N.Denot) (l : named.Ghosts N.Denot) (e : IsSend D) (t : IsSend S) (n : IsSend N) where
  with_log_send : IsSend (LoggedState.the_row D S N M d g s l)
  with_log_send = search (sendable, crosses, state_send, log_send) depth 30 fits 20000

-- the readers that no one has, under a lock
readers_sync : (N : RattleType) (b : reader.Ghosts N.Denot) (s : opened.Ghosts N.Denot) (l : named.Ghosts N.Denot) → IsSend N → IsSync N → IsSync (Mutex.the_row (Vec.the_row (HubReader.the_row N b s l) Global.the_row heap.ghosts))
readers_sync N b s l n m = search (sendable, crosses, reader_send) depth 12

-- the hub's own reader, under a lock
own_reader_sync : (N : RattleType) (b : reader.Ghosts N.Denot) (s : opened.Ghosts N.Denot) (l : named.Ghosts N.Denot) → IsSend N → IsSync N → IsSync (Mutex.the_row (Option.the_row (HubReader.the_row N b s l)))
own_reader_sync N b s l n m = search (sendable, crosses, reader_send) depth 20 fits 5000

-- what sessions were shown last, under a lock
looks_sync : (N : RattleType) (b : reader.Ghosts N.Denot) (s : opened.Ghosts N.Denot) (l : named.Ghosts N.Denot) → IsSend N → IsSync (Mutex.the_row (Looks.the_row N b s l))
looks_sync N b s l n = search (crosses, looks_send) depth 12

-- what senders that have ended had handed in, under a lock
ended_sync : (N : RattleType) (q : queue.Ghosts N.Denot) → IsSend N → IsSync (Mutex.the_row (EndedSenders.the_row N q))
ended_sync N q n = search (crosses, ended_send) depth 12

module _ (D N R : RattleType) (b : reader.Ghosts N.Denot) (s : opened.Ghosts N.Denot) (l : named.Ghosts N.Denot) (q : queue.Ghosts N.Denot) (d : device.Ghosts D.Denot) (w : wait.Ghosts R.Denot) (e : IsSend D) (n : IsSend N) (m : IsSync N) (r : IsSend R) where
  locked_send : IsSend (Locked.the_row D N R d b s l q w)
  locked_send =
      recorded_send _ _ _ (Locked.the_type D N R d b s l q w).to_one (struct_send (shape (Locked.the_type D N R d b s l q w)) (search (crosses, with_log_send, show_send) depth 12, (all_under_way_send N b s l q n, (submitted_send N q n, tt))))

  state_sync : IsSync (Mutex.the_row (Locked.the_row D N R d b s l q w))
  state_sync = search (crosses, locked_send) depth 12

status_sync : IsSync (HubStatus.the_field).row
status_sync = search (sendable, crosses) depth 80 fits 50000

module _ (D N R : RattleType) (b : reader.Ghosts N.Denot) (s : opened.Ghosts N.Denot) (l : named.Ghosts N.Denot) (q : queue.Ghosts N.Denot) (d : device.Ghosts D.Denot) (w : wait.Ghosts R.Denot) (e : IsSend D) (n : IsSend N) (m : IsSync N) (r : IsSend R) (t : IsSync R) where
  hub_field_sync : IsSync (Hub.the_field D N R d b s l q w).row
  hub_field_sync = struct_sync (shape (Hub.the_type D N R d b s l q w)) (t, (search (sendable, crosses), (queue_sync N b s l q n, (search (sendable, crosses), (state_sync D N R b s l q d w e n m r, (search (sendable, crosses) depth 20 fits 5000, (status_sync, (search (sendable, crosses), (readers_sync N b s l n m, (own_reader_sync N b s l n m, (collector_sync N l m, (acknowledged_sync N l n, (looks_sync N b s l n, (ended_sync N q n, tt))))))))))))))

  -- the hub, and what begins its senders
  pub open_sync : IsSync (OpenHub.the_row D N R d b s l q w)
  open_sync = recorded_sync _ _ _ (OpenHub.the_type D N R d b s l q w).to_one (struct_sync (shape (OpenHub.the_type D N R d b s l q w)) (hub_field_sync, (senders_sync N q m, tt)))
