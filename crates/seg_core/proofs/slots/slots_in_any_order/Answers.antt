use Rattle.std.proofs.Common.{List, ℕ, Option, subst₂, sym}
use Rattle.pw_wire.specs.View.{field_view}
use Rattle.seg_core.specs.declared.error.SegError.{SegError}
use Rattle.seg_core.specs.Slots.{IsMidway}
use Rattle.seg_core.proofs.Misfits.{IsMidway-step}
use Rattle.seg_core.proofs.slots.slots_in_any_order.Goals as goal

pub loop-field-preserved : goal.loop-field-preserved
loop-field-preserved c =
    let step = rw c.in-Some.is at c.in_ok-field.ensures.steps in
    let P : List ℕ → Option SegError → Type 0 = λ rest misfit. IsMidway c.args.shape.now c.args.message.now rest misfit c.note.new.self.numbers c.note.new.self.bytes in
    subst₂ P (sym c.split_at.ensures.back) (sym c.or-misfit.ensures)
    (IsMidway-step _ _ _ _ _ _ _ _ _ (field_view c.in-Some.field) c.in-Some.used c.loop-field.invariant step.fields_are step.fault_is c.misfit_of.ensures c.note.ensures)
