-- What the fields of a service over a hub represent.
use Rattle.std.specs.Prelude.{Bool}
use Rattle.seg_check.specs.Signatures.{Verdicts}
use Rattle.command_log.specs.declared.name.LogName as named
use Rattle.command_queue.specs.declared.history.QueueName as queue
use Rattle.hub_readers.specs.declared.ghosts.name.ReaderName as reader
use Rattle.logged_state.specs.declared.ghosts.name.StateName as opened
use Rattle.sector_dev.specs.declared.device.Device as device
use Rattle.path_session.specs.declared.service.HubService.{HubService}
use Rattle.path_session.specs.Serving.{Serving}

-- A service as contracts see it, by the verdicts of its verifier, and whether a peer has left.
abbrev pub serving : {D N R V C P : Type 0} → {d : device.Ghosts D} → {b : reader.Ghosts N} → {s : opened.Ghosts N} → {l : named.Ghosts N} → {q : queue.Ghosts N} → (V → Verdicts) → (P → Bool) → HubService D N R V C P d b s l q → Serving
serving verifies has_left s =
    record {
      roster = s.roster.now;
      verifies = verifies s.verifier.now;
      groups = s.reader.groups;
      seen = s.reader.seen;
      moment = s.moment;
      acknowledged = s.acknowledged;
      left = has_left s.peer;
    }
