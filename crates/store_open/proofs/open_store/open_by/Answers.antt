-- A store that was opened is whole, and on an honest device it is within its bounds.
use Rattle.std.proofs.Common.{◌≡◌, true, false, arith}
use Rattle.sector_dev.specs.Disk.{reads_of}
use Rattle.sector_dev.proofs.Stretches.{honest_before}
use Rattle.gate_journal.specs.declared.error.JournalError.TheVariants.{PastEnd}
use Rattle.store_open.specs.declared.error.OpenError.TheVariants.{Journal, NoMemory}
use Rattle.store_open.specs.Folded.{store_on}
use Rattle.store_open.proofs.Bounds.{never_outside}
use Rattle.store_open.proofs.Rests.{sound_at_rest}
use Rattle.store_open.proofs.open_store.open_by.Goals as goal

pub invariant_of-result : goal.invariant_of-result
invariant_of-result g c = record {
  rows = c.in-Ok.ensures.whole;
  room = c.in-Ok.ensures.room;
  within = c.is_within.ensures.0 c.if-not-is_within.false;
  unsealed = λ (broken : false ≡ true). absurd (cc);
  sound = λ honest.
      sound_at_rest (store_on (g.D.Device.disk c.settle.new.device) c.in-Ok.folded)
      (c.in-Ok.ensures.opened (honest_before (g.D.Device.disk c.args.device) (g.D.Device.disk c.settle.new.device) c.settle.ensures.any_moment.keeps honest)).rest;
}

pub returns-then-not-is_within-clause-refused : goal.returns-then-not-is_within-clause-refused
returns-then-not-is_within-clause-refused g c = record {
  refused = λ honest. absurd (never_outside (reads_of (g.D.Device.disk c.args.device)) (store_on (g.D.Device.disk c.settle.new.device) c.in-Ok.folded) c.is_within.result c.in-Ok.ensures.room.allowed
      (let whole = g.met.D.Device.whole c.args.device honest in omega (arith, whole.size, c.in-Ok.ensures.room.room, c.settle.ensures.any_moment.keeps.sectors))
      (c.in-Ok.ensures.opened honest) c.is_within.ensures.1 c.if-not-is_within.true);
  memory = λ honest is. let other : Journal PastEnd ≡ NoMemory = is in absurd (cc);
  faults = c.in-Ok.ensures.faults;
}

pub returns-then-not-is_within-clause-unwritten : goal.returns-then-not-is_within-clause-unwritten
returns-then-not-is_within-clause-unwritten g c = λ honest nothing. absurd (never_outside (reads_of (g.D.Device.disk c.args.device)) (store_on (g.D.Device.disk c.settle.new.device) c.in-Ok.folded) c.is_within.result c.in-Ok.ensures.room.allowed
    (let whole = g.met.D.Device.whole c.args.device honest in omega (arith, whole.size, c.in-Ok.ensures.room.room, c.settle.ensures.any_moment.keeps.sectors))
    (c.in-Ok.ensures.opened honest) c.is_within.ensures.1 c.if-not-is_within.true)

pub returns-then-not-is_within-clause-untouched : goal.returns-then-not-is_within-clause-untouched
returns-then-not-is_within-clause-untouched g c = λ honest other. absurd (never_outside (reads_of (g.D.Device.disk c.args.device)) (store_on (g.D.Device.disk c.settle.new.device) c.in-Ok.folded) c.is_within.result c.in-Ok.ensures.room.allowed
    (let whole = g.met.D.Device.whole c.args.device honest in omega (arith, whole.size, c.in-Ok.ensures.room.room, c.settle.ensures.any_moment.keeps.sectors))
    (c.in-Ok.ensures.opened honest) c.is_within.ensures.1 c.if-not-is_within.true)
