-- The moments of the file in a sync are covered. The other clauses are found by the search.
use Rattle.std.proofs.Common.{rules, List, [], ◌∷◌, ◌++◌, refl, sym, subst, ◌∙◌, ap, append_assoc}
use Rattle.sector_dev.specs.Disk.{Disk, Moment}
use Rattle.sector_dev.specs.PositionedFile.{FileState}
use Rattle.sector_dev.specs.FileDevice.{front, file_disk, file_state, CoversCall}
use Rattle.sector_dev.proofs.Covered.{sync_covered}
use Rattle.sector_dev.proofs.file_device.FileDeviceDevice.sync.Goals as goal

pub returns-in-Ok-clause-sync : goal.returns-in-Ok-clause-sync
returns-in-Ok-clause-sync g c = search rules

pub returns-in-Ok-clause-failures : goal.returns-in-Ok-clause-failures
returns-in-Ok-clause-failures g c = search rules

pub returns-in-Ok-clause-covered : goal.returns-in-Ok-clause-covered
returns-in-Ok-clause-covered g c honest =
    let self = c.args.self.now in
    let sync = c.in-Ok.ensures.sync in
    let new = g.F.PositionedFile.state c.sync_data.new.self in
    let now : Moment = record { reads = front self.sectors new.bytes; dirty = c.trail_synced-trail.result.value.dirty } in
    sync_covered self.sectors (file_state self) new self.trail.value.past (now ∷ []) (c.trail_synced-trail.result.value.past ++ now ∷ []) self.trail.value.dirty new.bytes (self.dirty_covered honest) (sync.bytes honest)
    (ap (λ (list : List Moment). list ++ now ∷ []) c.trail_synced-trail.ensures.0 ∙ append_assoc self.trail.value.past _ (now ∷ [])) (sync.moments honest)

pub invariant_of-self-in-Ok : goal.invariant_of-self-in-Ok
invariant_of-self-in-Ok g c = search rules

pub returns-in-Err-clause-failures : goal.returns-in-Err-clause-failures
returns-in-Err-clause-failures g c = search rules

pub returns-in-Err-clause-covered : goal.returns-in-Err-clause-covered
returns-in-Err-clause-covered g c =
    let self = c.args.self.now in
    let sync = c.in-Err.ensures.sync in
    let new = g.F.PositionedFile.state c.sync_data.new.self in
    subst {A = FileState} (λ (file : FileState). CoversCall (file_state self) file (file_disk self) (file_disk c.count.new.self)) (sym c.count.ensures.file)
    (subst {A = Disk} (λ (disk : Disk). CoversCall (file_state self) new (file_disk self) disk) (sym c.count.ensures.disk)
    (λ honest. sync_covered self.sectors (file_state self) new self.trail.value.past [] _ self.trail.value.dirty new.bytes (self.dirty_covered honest) (sync.bytes honest) refl (sync.moments honest)))
