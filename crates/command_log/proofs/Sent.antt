-- What goes from one thread to another: a log, claims, and a collector.
use denote.RattleType.{RattleType}
use denote.Param.Send.{IsSend, IsSync, sendable, recorded_sync, struct_sync}
use denote.Struct.Declared.{shape}
use Rattle.std.proofs.Crossing.{crosses}
use Rattle.atomic_table.proofs.shared.Seat.TheSendSync as seat
use Rattle.atomic_table.proofs.shared.Shared.TheSendSync as shared
use Rattle.atomic_table.proofs.send_lease.SendLease.TheSendSync as lease
use Rattle.command_log.specs.declared.name.LogName.{Ghosts}
use Rattle.command_log.specs.contracts.claims.Accepted as Accepted
use Rattle.command_log.specs.contracts.claims.Logged as Logged
use Rattle.command_log.specs.contracts.log.CommandLog as CommandLog
use Rattle.command_log.specs.contracts.gathering.ClaimCollector as ClaimCollector
use Rattle.command_log.specs.contracts.gathering.LoggedList as LoggedList

module _ (N : RattleType) (l : Ghosts N.Denot) (n : IsSend N) where
  pub accepted_send : IsSend (Accepted.the_row N l)
  accepted_send = search (sendable, crosses, seat.the_send) depth 30 fits 20000

  pub logged_send : IsSend (Logged.the_row N l)
  logged_send = search (sendable, crosses, seat.the_send) depth 30 fits 20000

  pub list_send : IsSend (LoggedList.the_row N l)
  list_send = search (sendable, crosses, seat.the_send) depth 30 fits 20000

  pub log_send : IsSend (CommandLog.the_row N l)
  log_send = search (sendable, crosses, seat.the_send, shared.the_send, shared.the_sync, lease.the_send, lease.the_sync) depth 60 fits 20000

module _ (N : RattleType) (l : Ghosts N.Denot) (m : IsSync N) where
  pub collector_sync : IsSync (ClaimCollector.the_row N l)
  collector_sync =
      recorded_sync _ _ _ (ClaimCollector.the_type N l).to_one (struct_sync (shape (ClaimCollector.the_type N l))
      (search (sendable, crosses, seat.the_send, shared.the_send, shared.the_sync, lease.the_send, lease.the_sync) depth 60 fits 20000, (search (sendable, crosses) depth 20, tt)))
