use Rattle.std.proofs.Common.{sym, ap, ◌∙◌}
use Rattle.std.specs.Ordering.{nat_cmp}
use Rattle.std.specs.BTreeMap.{is_at}
use Rattle.std.specs.Map.{lookup}
use Rattle.rising_map.proofs.Found.{found_at, found_gap}
use Rattle.rising_map.proofs.Places.{value_here, value_missing}
use Rattle.rising_map.proofs.map.RisingMap.get.Goals as goal

pub returns-in-Ok : goal.returns-in-Ok
returns-in-Ok g c =
    let at = found_at _ c.self.inside.slots.items _ _ _ c.deref.ensures.value c.find.ensures c.in-Ok.is in
    sym (value_here c.self.inside.slots.items c.self.invariant.rising c.args.number c.in-Ok.at at.0 c.index.result.now c.index.ensures (rw (c.index.ensures) (at.1 c.index.result.now)))
    ∙ ap (lookup (is_at (nat_cmp c.args.number))) c.self.view_is

pub returns-in-Err : goal.returns-in-Err
returns-in-Err g c =
    let gap = found_gap _ c.self.inside.slots.items _ _ _ c.deref.ensures.value c.find.ensures c.in-Err.is in
    sym (value_missing c.self.inside.slots.items c.self.invariant.rising c.args.number c.in-Err.field-0 gap.0 gap.1)
    ∙ ap (lookup (is_at (nat_cmp c.args.number))) c.self.view_is
