-- What goes from one thread to another: a claim, what begins senders and what takes them in, what
-- was submitted, and a queue of what may go there.
use denote.RattleType.{RattleType}
use denote.Builtin.{u64}
use denote.Param.Send.{IsSend, IsSync, sendable, recorded_send, struct_send, struct_sync}
use denote.Struct.Declared.{shape}
use Rattle.std.proofs.Crossing.{crosses, Deque-send}
use Rattle.atomic_table.proofs.shared.Seat.TheSendSync as seat
use Rattle.atomic_table.proofs.shared.Shared.TheSendSync as shared
use Rattle.atomic_table.proofs.send_lease.SendLease.TheSendSync as lease
use Rattle.logbook.proofs.tokens.Seen.TheSendSync as seen
use Rattle.logbook.proofs.word.Word.TheSendSync as word
use Rattle.path_db.specs.contracts.command.Command as Command
use Rattle.command_queue.specs.declared.history.QueueName.{Ghosts}
use Rattle.command_queue.specs.contracts.claim.Claim as Claim
use Rattle.command_queue.specs.contracts.desk.Desk as Desk
use Rattle.command_queue.specs.contracts.history.History as History
use Rattle.command_queue.specs.contracts.history.HistoryRuleCommandU64.TheImpl as rule
use Rattle.command_queue.specs.contracts.numbering.Numbering as Numbering
use Rattle.command_queue.specs.contracts.queue.HandedIn as HandedIn
use Rattle.command_queue.specs.contracts.queue.CommandQueue as CommandQueue
use Rattle.command_queue.specs.contracts.sender.EndedSenders as EndedSenders
use Rattle.command_queue.specs.contracts.sender.Senders as Senders
use Rattle.command_queue.specs.contracts.submitted.Numbered as Numbered
use Rattle.command_queue.specs.contracts.submitted.Submitted as Submitted

command_send : IsSend (Command.the_field).row
command_send = search (sendable, crosses) depth 60 fits 20000

pub claim_send : (N : RattleType) (g : Ghosts N.Denot) → IsSend N → IsSend (Claim.the_field N g).row
claim_send N g n = search (sendable, crosses, seen.the_send) depth 20

module _ (N : RattleType) (g : Ghosts N.Denot) (n : IsSend N) where
  desk_send : IsSend (Desk.the_row N g)
  desk_send = search (sendable, crosses, seat.the_send, shared.the_send, shared.the_sync, lease.the_send, lease.the_sync) depth 60 fits 20000

  numbered_send : IsSend (Numbered.the_row N g)
  numbered_send = search (sendable, crosses, seat.the_send) depth 30 fits 20000

  pub ended_send : IsSend (EndedSenders.the_row N g)
  ended_send = search (sendable, crosses, seat.the_send, shared.the_send, shared.the_sync, lease.the_send, lease.the_sync) depth 60 fits 20000

  pub submitted_send : IsSend (Submitted.the_row N g)
  submitted_send = search (sendable, crosses, seat.the_send, shared.the_send, shared.the_sync, lease.the_send, lease.the_sync) depth 60 fits 20000

pub senders_sync : (N : RattleType) (g : Ghosts N.Denot) → IsSync N → IsSync (Senders.the_field N g).row
senders_sync N g m =
    struct_sync (shape (Senders.the_type N g))
    (search (sendable, crosses, seat.the_send, shared.the_send, shared.the_sync, lease.the_send, lease.the_sync) depth 60 fits 20000, (search (sendable, crosses) depth 20, tt))

module _ (N T : RattleType) (g : Ghosts N.Denot) (n : IsSend N) (t : IsSend T) where
  handed_send : IsSend (HandedIn.the_field N T g).row
  handed_send = struct_send (shape (HandedIn.the_type N T g)) (claim_send N g n, (numbered_send N g n, (command_send, (t, tt))))

  whole_send : IsSend (HandedIn.the_row N T g)
  whole_send = recorded_send _ _ _ (HandedIn.the_type N T g).to_one handed_send

  numbers_send : IsSend (Numbering.the_field N g).row
  numbers_send =
      struct_send (shape (Numbering.the_type N g))
      (search sendable, (seen.the_send Command.the_row u64 History.the_row rule.ghosts, (word.the_send Command.the_row u64 History.the_row rule.ghosts, (desk_send N g n, tt))))

  pub queue_send : IsSend (CommandQueue.the_field N T g).row
  queue_send =
      struct_send (shape (CommandQueue.the_type N T g))
      (numbers_send, (search sendable, (Deque-send (HandedIn.the_row N T g) whole_send, (search (sendable, crosses), tt))))
