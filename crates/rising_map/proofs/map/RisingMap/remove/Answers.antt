use Rattle.std.proofs.Common.{sym, ap, ◌∙◌, arith}
use Rattle.std.specs.Option.{is_some}
use Rattle.rising_map.proofs.Found.{found_at, found_gap}
use Rattle.rising_map.proofs.Steps.{left_rising, left, taken_so, found_so, hole_so, missing_so, untaken_so, view_rises}
use Rattle.rising_map.proofs.map.RisingMap.remove.Goals as goal
use Rattle.rising_map.proofs.map.RisingMap.remove.Goals.{then-len-self, else-len-self}

pub returns-in_default : goal.returns-in_default
returns-in_default g c =
    let gap = found_gap _ c.self.inside.slots.items _ _ _ c.deref.ensures.value c.find.ensures c.in_default.is in
    record {
      entries = untaken_so c.self.inside.slots.items c.self.invariant.rising c.args.number c.in_default.field-0 gap c.args.self.now c.self.view_is;
      value = sym (missing_so c.self.inside.slots.items c.self.invariant.rising c.args.number c.in_default.field-0 gap c.args.self.now c.self.view_is);
      rising = view_rises c.self.inside.slots.items c.self.invariant.rising c.args.self.now c.self.view_is;
    }

pub returns-in_err-value : goal.returns-in_err-value
returns-in_err-value g c =
    let at = found_at _ c.self.inside.slots.items _ _ _ c.deref.ensures.value c.find.ensures c.in-Ok.is in
    record {
      entries = hole_so c.self.inside.slots.items c.self.inside.holes c.self.invariant c.args.number c.in-Ok.at at c.index.result.now c.index.ensures c.args.self.now c.self.view_is c.in_err-value.was;
      value = c.from_residual.ensures ∙ sym c.in_err-value.was ∙ found_so c.self.inside.slots.items c.self.inside.holes c.self.invariant c.args.number c.in-Ok.at at c.index.result.now c.index.ensures c.args.self.now c.self.view_is;
      rising = view_rises c.self.inside.slots.items c.self.invariant.rising c.args.self.now c.self.view_is;
    }

pub close_holes-requires : goal.close_holes-requires
close_holes-requires g c =
    let at = found_at _ c.self.inside.slots.items _ _ _ c.deref.ensures.value c.find.ensures c.in-Ok.is in
    left_rising c.self.inside.slots.items c.self.inside.holes c.self.invariant c.args.number c.in-Ok.at at c.index.result.now c.index.ensures c.index_mut.result.now c.index_mut.ensures.value

pub invariant_of-self-else-len-self : goal.invariant_of-self-else-len-self
invariant_of-self-else-len-self g c =
    let at = found_at _ c.self.inside.slots.items _ _ _ c.deref.ensures.value c.find.ensures c.in-Ok.is in
    left c.self.inside.slots.items c.self.inside.holes c.self.invariant c.args.number c.in-Ok.at at c.index.result.now c.index.ensures c.index_mut.result.now c.index_mut.ensures.value (ap is_some c.in_ok-value.was) (omega (arith, c.if-len-self.false, c.len.ensures))

pub returns : goal.returns
returns g c =
    let at = found_at _ c.self.inside.slots.items _ _ _ c.deref.ensures.value c.find.ensures c.in-Ok.is in
    let taken = taken_so c.self.inside.slots.items c.self.inside.holes c.self.invariant c.args.number c.in-Ok.at at c.index.result.now c.index.ensures c.index_mut.result.now c.index_mut.ensures.value c.args.self.now c.self.view_is in
    record {
      entries = elim c.if-len-self.branch [ then-len-self w ↦ w.self-is ∙ w.close_holes.ensures.entries ∙ taken | else-len-self w ↦ w.self-is ∙ taken ];
      value = sym c.in_ok-value.was ∙ found_so c.self.inside.slots.items c.self.inside.holes c.self.invariant c.args.number c.in-Ok.at at c.index.result.now c.index.ensures c.args.self.now c.self.view_is;
      rising = view_rises c.self.inside.slots.items c.self.invariant.rising c.args.self.now c.self.view_is;
    }
