-- The effect of a write of the file on the device, that bytes which are clean in the device are clean
-- in the file, and that the moments of the file are covered.
use Rattle.std.proofs.Common.{◌+◌, ◌*◌, ◌≤◌, length, Bool, IsTrue, refl, sym, subst, arith, Err}
use Rattle.sector_dev.specs.Disk.{Disk}
use Rattle.sector_dev.specs.Calls.{WriteCall}
use Rattle.sector_dev.specs.PositionedFile.{FileState, IsHonestFile}
use Rattle.sector_dev.specs.FileDevice.{file_disk, file_state, CoversCall}
use Rattle.sector_dev.proofs.Joined.{covered_after, covers_written, file_lands}
use Rattle.sector_dev.proofs.Covered.{write_covered}
use Rattle.sector_dev.proofs.file_device.FileDeviceDevice.write.Goals as goal

pub invariant_of-self : goal.invariant_of-self
invariant_of-self g c =
    let self = c.args.self.now in
    let wrote = c.write_whole.ensures.writes in
    let old = g.F.PositionedFile.state self.file in
    let new = g.F.PositionedFile.state c.write_whole.new.file in
    let was_honest : IsHonestFile new → IsHonestFile old = λ honest. subst (λ (b : Bool). IsTrue b) wrote.is_honest honest in
    record {
      small = self.small;
      dirty_covered = λ honest.
          let honest_then = was_honest honest in
          covers_written _ _ _ _ old new (self.dirty_covered honest_then) (wrote.dirty honest_then) c.trail_wrote-trail.ensures.1;
      covered = λ honest.
          let honest_then = was_honest honest in
          covered_after (512 * self.sectors) (512 * c.args.at) c.args.bytes.now c.write_whole.result old.bytes new.bytes c.requires.inside (self.covered honest_then)
          (wrote.lands honest_then (omega (arith, self.covered honest_then, c.requires.inside)));
    }

pub returns-in-Ok-clause-write : goal.returns-in-Ok-clause-write
returns-in-Ok-clause-write g c =
    let self = c.args.self.now in
    let wrote = c.in-Ok.ensures.writes in
    record {
      keeps = record { is_honest = wrote.is_honest; sectors = refl };
      faults = refl;
      lands = λ honest.
          file_lands self.sectors c.args.at c.args.bytes.now (g.F.PositionedFile.state self.file) (g.F.PositionedFile.state c.write_whole.new.file) _ _ _ _ _ _ c.requires.inside (self.covered honest)
          (wrote.lands honest (omega (arith, self.covered honest, c.requires.inside))) (λ landed done. done) c.trail_wrote-trail.ensures;
    }

-- a write that ended early is counted
pub returns-in-Err-clause-write : goal.returns-in-Err-clause-write
returns-in-Err-clause-write g c =
    let self = c.args.self.now in
    let wrote = c.in-Err.ensures.writes in
    subst {A = Disk} (λ (disk : Disk). WriteCall {T = Unit {0}} c.args.at c.args.bytes.now (Err c.count.result) (file_disk self) disk) (sym c.count.ensures.disk) (record {
      keeps = record { is_honest = wrote.is_honest; sectors = refl };
      faults = refl;
      lands = λ honest.
          file_lands self.sectors c.args.at c.args.bytes.now (g.F.PositionedFile.state self.file) (g.F.PositionedFile.state c.write_whole.new.file) _ _ _ _ _ _ c.requires.inside (self.covered honest)
          (wrote.lands honest (omega (arith, self.covered honest, c.requires.inside))) (λ landed none. tt) c.trail_wrote-trail.ensures;
    })

-- the moments of the file are covered
pub returns-in-Ok-clause-covered : goal.returns-in-Ok-clause-covered
returns-in-Ok-clause-covered g c honest =
    let self = c.args.self.now in
    let wrote = c.in-Ok.ensures.writes in
    let old = g.F.PositionedFile.state self.file in
    let within : 512 * c.args.at + length c.args.bytes.now ≤ length old.bytes = omega (arith, self.covered honest, c.requires.inside) in
    write_covered self.sectors c.args.at c.args.bytes.now old _ _ _ _ _ _ c.requires.inside (self.covered honest) (self.dirty_covered honest) (wrote.lands honest within) (wrote.moments honest within) c.trail_wrote-trail.ensures

pub returns-in-Err-clause-covered : goal.returns-in-Err-clause-covered
returns-in-Err-clause-covered g c =
    let self = c.args.self.now in
    let wrote = c.in-Err.ensures.writes in
    let old = g.F.PositionedFile.state self.file in
    let new = g.F.PositionedFile.state c.write_whole.new.file in
    subst {A = FileState} (λ (file : FileState). CoversCall (file_state self) file (file_disk self) (file_disk c.count.new.self)) (sym c.count.ensures.file)
    (subst {A = Disk} (λ (disk : Disk). CoversCall (file_state self) new (file_disk self) disk) (sym c.count.ensures.disk)
    (λ honest.
    let within : 512 * c.args.at + length c.args.bytes.now ≤ length old.bytes = omega (arith, self.covered honest, c.requires.inside) in
    write_covered self.sectors c.args.at c.args.bytes.now old _ _ _ _ _ _ c.requires.inside (self.covered honest) (self.dirty_covered honest) (wrote.lands honest within) (wrote.moments honest within) c.trail_wrote-trail.ensures))
