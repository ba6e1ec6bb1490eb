-- What answers to a hub's commands share between threads.
use denote.RattleType.{RattleType}
use denote.Param.Send.{IsSend, IsSync, sendable, recorded_send, recorded_sync, struct_send, struct_sync}
use denote.Struct.Declared.{shape}
use Rattle.std.proofs.Crossing.{crosses, Arc-send}
use Rattle.std.specs.contracts.sync.Arc as Arc
use Rattle.std.specs.contracts.alloc.Global as Global
use Rattle.std.specs.contracts.impls.GlobalAllocator.TheImpl as heap
use Rattle.command_queue.specs.declared.history.QueueName as queue
use Rattle.command_queue.proofs.Sent.{claim_send}
use Rattle.command_log.specs.declared.name.LogName as named
use Rattle.logged_state.specs.declared.ghosts.name.StateName as opened
use Rattle.hub_readers.specs.declared.ghosts.name.ReaderName as reader
use Rattle.hub_readers.proofs.Sent.{receipt_send}
use Rattle.hub_claims.specs.contracts.answer.Answer as Answer
use Rattle.hub_claims.specs.contracts.answer.Slot as Slot

module _ (N : RattleType) (b : reader.Ghosts N.Denot) (s : opened.Ghosts N.Denot) (l : named.Ghosts N.Denot) (q : queue.Ghosts N.Denot) (n : IsSend N) where
  answer_send : IsSend (Answer.the_row N b s l q)
  answer_send = recorded_send _ _ _ (Answer.the_type N b s l q).to_one (struct_send (shape (Answer.the_type N b s l q)) (claim_send N q n, (search (sendable, crosses, receipt_send) depth 30 fits 20000, tt)))

  slot_send : IsSend (Slot.the_row N b s l q)
  slot_send = recorded_send _ _ _ (Slot.the_type N b s l q).to_one (struct_send (shape (Slot.the_type N b s l q)) (search (sendable, crosses, answer_send) depth 12, tt))

  slot_sync : IsSync (Slot.the_row N b s l q)
  slot_sync = recorded_sync _ _ _ (Slot.the_type N b s l q).to_one (struct_sync (shape (Slot.the_type N b s l q)) (search (sendable, crosses, answer_send) depth 12, tt))

  -- where an answer goes, for who waits for it and for who puts it there
  pub slots_send : IsSend (Arc.the_row (Slot.the_row N b s l q) Global.the_row heap.ghosts)
  slots_send = Arc-send (Slot.the_row N b s l q) slot_send slot_sync
