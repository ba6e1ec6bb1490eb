use Rattle.std.proofs.Common.{◌≤◌, not, [], refl, ◌∙◌, ap, subst, arith}
use Rattle.sector_dev.specs.Disk.{Disk, IsHonest, IsWhole}
use Rattle.store_layout.specs.Group.{last_place}
use Rattle.ckpt_stream.specs.HalfRead.{pieces_to_come}
use Rattle.group_phases.specs.declared.phases.Flush.TheVariants.{Resting}
use Rattle.group_core.specs.Starting.{check_in, no_turn}
use Rattle.group_core.proofs.Start.{not_false, opens_so, started_so}
use Rattle.group_core.proofs.state.State.new.Goals as goal

pub invariant_of-result : goal.invariant_of-result
invariant_of-result g c =
    let parts = c.into_parts-device in
    let last : c.args.store.place ≤ last_place = omega (arith, c.place-place.ensures, c.place-place.type_inv) in
    started_so c.args.store parts.ensures.sound (subst (λ (d : Disk). IsHonest d → IsWhole d) parts.ensures.device (g.met.D.Device.whole parts.result.0))
    c.written_rows_are_counted.ensures last c.args.home (not c.goes_on-stopped.result) (not_false c.goes_on-stopped.result c.goes_on-stopped.ensures) _ _
    (λ i. record {
      disk = parts.ensures.device i;
      geometry = c.geometry-geometry.ensures i;
      home = c.args.home;
      value = c.requires.shown i;
      shown = c.requires.unshown i;
      pending = c.new.ensures.items i;
      kept = c.new-2.ensures i;
      taken = 0;
      following = 0;
      flush = Resting;
      group = no_turn;
      check = (c.check_of-check.ensures ∙ ap check_in c.is_sealed.ensures) i;
      plan = no_turn;
      half = c.tail_half-half.ensures i;
      gate = c.tail_gate-gate.ensures i;
      epoch = c.epoch-epoch.ensures i;
      version = c.version-version.ensures.version i;
      checkpoint = [];
      written = 0;
      unprepared = ap pieces_to_come c.new-5.ensures.unread i;
      stopped = not c.goes_on-stopped.result;
    })
    parts.ensures.rows c.place-place.ensures c.requires.paid refl c.new-5.ensures.from

pub returns-clause-left : goal.returns-clause-left
returns-clause-left g c = opens_so _ c.into_parts-device.ensures.device (invariant_of-result g c)
