use denote.Param.Send.{sendable}
use Rattle.std.proofs.Crossing.{crosses}
use Rattle.path_hub.proofs.Sent.{open_sync}
use Rattle.path_hub.proofs.workload.fn.attend_all.scope.Goals as goal

-- the thread has the hub, what begins its senders, the workload and the task
pub spawn-requires-send-F : goal.spawn-requires-send-F
spawn-requires-send-F g c κs within = search (sendable, crosses, open_sync) depth 20 fits 5000
