use Rattle.std.proofs.Common.{sym, ap, ◌∙◌, not}
use Rattle.rising_map.proofs.Found.{found_at, found_gap}
use Rattle.rising_map.proofs.Steps.{on_err, filled_some, filled, replaced, added, put_so, found_so, missing_so, added_so, view_rises}
use Rattle.rising_map.proofs.map.RisingMap.insert.Goals as goal
use Rattle.rising_map.proofs.map.RisingMap.insert.Goals.{then-is_none, else-is_none}

pub overflow_sub-self : goal.overflow_sub-self
overflow_sub-self g c =
    let at = found_at _ c.self.inside.slots.items _ _ _ c.deref.ensures.value c.find.ensures c.in-Ok.is in
    filled_some c.self.inside.slots.items c.self.inside.holes c.self.invariant c.args.number c.in-Ok.at at c.index.result.now c.index.ensures c.index_mut.result.now c.index_mut.ensures.value c.args.value (c.is_none.ensures ∙ ap not c.if-is_none.true)

pub invariant_of-self : goal.invariant_of-self
invariant_of-self g c =
    let at = found_at _ c.self.inside.slots.items _ _ _ c.deref.ensures.value c.find.ensures c.in-Ok.is in
    filled c.self.inside.slots.items c.self.inside.holes c.self.invariant c.args.number c.in-Ok.at at c.index.result.now c.index.ensures c.index_mut.result.now c.index_mut.ensures.value c.args.value (c.is_none.ensures ∙ ap not c.if-is_none.true)

pub invariant_of-self-else-is_none : goal.invariant_of-self-else-is_none
invariant_of-self-else-is_none g c =
    let at = found_at _ c.self.inside.slots.items _ _ _ c.deref.ensures.value c.find.ensures c.in-Ok.is in
    replaced c.self.inside.slots.items c.self.inside.holes c.self.invariant c.args.number c.in-Ok.at at c.index.result.now c.index.ensures c.index_mut.result.now c.index_mut.ensures.value c.args.value (c.is_none.ensures ∙ ap not c.if-is_none.false)

pub returns-in_err-add-in-Err-clause-absent : goal.returns-in_err-add-in-Err-clause-absent
returns-in_err-add-in-Err-clause-absent g c =
    let gap = found_gap _ c.self.inside.slots.items _ _ _ c.deref.ensures.value c.find.ensures c.in-Err.is in
    on_err c.from_residual.result (missing_so c.self.inside.slots.items c.self.invariant.rising c.args.number c.in-Err.at gap c.args.self.now c.self.view_is)

pub returns-in_err-add-in-Err-clause-rising : goal.returns-in_err-add-in-Err-clause-rising
returns-in_err-add-in-Err-clause-rising g c = view_rises c.self.inside.slots.items c.self.invariant.rising _ c.self.view_is

pub invariant_of-self-in-Err : goal.invariant_of-self-in-Err
invariant_of-self-in-Err g c =
    let gap = found_gap _ c.self.inside.slots.items _ _ _ c.deref.ensures.value c.find.ensures c.in-Err.is in
    added c.self.inside.slots.items c.add.new.slots.items c.self.inside.holes c.args.number c.in-Err.at c.self.invariant gap c.args.value c.in_ok-add-in-Err.ensures.added

pub returns-after-is_none : goal.returns-after-is_none
returns-after-is_none g c =
    let at = found_at _ c.self.inside.slots.items _ _ _ c.deref.ensures.value c.find.ensures c.in-Ok.is in
    let put = put_so c.self.inside.slots.items c.self.inside.holes c.self.invariant c.args.number c.in-Ok.at at c.index.result.now c.index.ensures c.index_mut.result.now c.index_mut.ensures.value c.args.value c.args.self.now c.self.view_is in
    record {
      entries = elim c.if-is_none.branch [ then-is_none w ↦ w.self-is ∙ put | else-is_none w ↦ w.self-is ∙ put ];
      before = found_so c.self.inside.slots.items c.self.inside.holes c.self.invariant c.args.number c.in-Ok.at at c.index.result.now c.index.ensures c.args.self.now c.self.view_is;
      refused = tt;
      absent = tt;
      rising = view_rises c.self.inside.slots.items c.self.invariant.rising c.args.self.now c.self.view_is;
    }

pub returns-in_ok-add-in-Err : goal.returns-in_ok-add-in-Err
returns-in_ok-add-in-Err g c =
    let gap = found_gap _ c.self.inside.slots.items _ _ _ c.deref.ensures.value c.find.ensures c.in-Err.is in
    record {
      entries = added_so c.self.inside.slots.items c.self.invariant.rising c.args.number c.in-Err.at gap c.args.self.now c.self.view_is c.args.value c.add.new.slots.items c.in_ok-add-in-Err.ensures.added;
      before = sym (missing_so c.self.inside.slots.items c.self.invariant.rising c.args.number c.in-Err.at gap c.args.self.now c.self.view_is);
      refused = tt;
      absent = tt;
      rising = view_rises c.self.inside.slots.items c.self.invariant.rising c.args.self.now c.self.view_is;
    }
