use Rattle.std.proofs.Common.{refl, ap, ◌∙◌}
use Rattle.sector_dev.specs.FileDevice.{file_disk, file_state}
use Rattle.cli_program.proofs.ServedFile.{covers_same, serves_left}
use Rattle.cli_program.proofs.serving.serve_site.Goals as goal
use Rattle.cli_program.proofs.serving.serve_site.Goals.{in-Some, in-None}

-- what is opened, and then served
pub returns-clause-served : goal.returns-clause-served
returns-clause-served g c =
    elim c.match-left.branch [
      | in-Some w ↦ rw w.left-is
          (serves_left _ c.in_ok-store.store _ w.in-Some.left _ _ _ _ _ _ _
          w.in-Some.is (c.of-start.ensures ∙ c.as_store-4.ensures) w.into_parts-left.ensures.left w.into_parts-left.ensures.queued w.of-trace.ensures
          (ap (λ d. file_disk d) w.device-in-Some.ensures)
          c.in_ok-store.ensures.opened c.in_ok-store.ensures.any_moment
          c.serve_store-device.ensures.moments c.serve_store-device.ensures.since c.serve_store-device.ensures.looked c.serve_store-device.ensures.queued c.serve_store-device.ensures.sent
          c.serve_store-device.ensures.left refl
          (covers_same _ _ _ _ (ap (λ d. file_state d) c.device.ensures) (ap (λ d. file_disk d) c.device.ensures) c.covers_images.ensures))
      | in-None w ↦ rw w.left-is tt
    ]
