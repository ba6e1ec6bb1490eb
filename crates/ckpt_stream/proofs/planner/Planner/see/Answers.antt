use Rattle.std.proofs.Common.{List, Bool, refl, sym, subst}
use Rattle.row_map.specs.Row.{row_view}
use Rattle.path_records.specs.declared.key.Key.{Key}
use Rattle.ckpt_stream.specs.Planning.{is_beyond, IsBeforeRowEdit, IsAfterKeyPuts}
use Rattle.ckpt_stream.specs.declared.planner.Planner.{Planner}
use Rattle.ckpt_stream.specs.Planner.{PlansOn}
use Rattle.ckpt_stream.proofs.Plans.{before_next}
use Rattle.ckpt_stream.proofs.Seen.{seen_more}
use Rattle.ckpt_stream.proofs.planner.Planner.see.Goals as goal

pub returns-then-is_touched : goal.returns-then-is_touched
returns-then-is_touched c = λ commands seen was.
    let old = c.args.self.now in
    let row = row_view c.args.row in
    let mid : Planner = record old { at = c.in_ok-at.at; edits = c.put_up_to.new.edits } in
    seen_more commands seen row old mid c.take_out.new.self c.in_ok-at.is_touched was refl refl refl refl
    (subst (λ (k : List Key). IsAfterKeyPuts c.in_ok-at.is_touched row k (is_beyond old.purged) seen c.in_ok-at.at c.put_up_to.new.edits.items was.planned.count was.planned.olds) c.deref.ensures.value
    (c.in_ok-at.ensures (is_beyond old.purged) seen was.planned.count was.planned.olds
    (subst (λ (k : List Key). IsBeforeRowEdit row k (is_beyond old.purged) seen old.at old.edits.items was.planned.count was.planned.olds) (sym c.deref.ensures.value)
    (before_next old.keys.items old.at row (is_beyond old.purged) seen old.edits.items was.planned.count was.planned.olds was.planned.planned))))
    (subst (λ (b : Bool). PlansOn b row mid c.take_out.new.self) (sym c.if-is_touched.true) c.in_ok-take_out.ensures)

pub returns-then-is_left_by : goal.returns-then-is_left_by
returns-then-is_left_by c = λ commands seen was.
    let old = c.args.self.now in
    let row = row_view c.args.row in
    let mid : Planner = record old { at = c.in_ok-at.at; edits = c.put_up_to.new.edits } in
    seen_more commands seen row old mid c.keep.new.self c.in_ok-at.is_touched was refl refl refl refl
    (subst (λ (k : List Key). IsAfterKeyPuts c.in_ok-at.is_touched row k (is_beyond old.purged) seen c.in_ok-at.at c.put_up_to.new.edits.items was.planned.count was.planned.olds) c.deref.ensures.value
    (c.in_ok-at.ensures (is_beyond old.purged) seen was.planned.count was.planned.olds
    (subst (λ (k : List Key). IsBeforeRowEdit row k (is_beyond old.purged) seen old.at old.edits.items was.planned.count was.planned.olds) (sym c.deref.ensures.value)
    (before_next old.keys.items old.at row (is_beyond old.purged) seen old.edits.items was.planned.count was.planned.olds was.planned.planned))))
    (subst (λ (b : Bool). PlansOn b row mid c.keep.new.self) (sym c.if-is_touched.false) c.in_ok-keep.ensures)

pub returns : goal.returns
returns c = λ commands seen was.
    let old = c.args.self.now in
    let row = row_view c.args.row in
    let mid : Planner = record old { at = c.in_ok-at.at; edits = c.put_up_to.new.edits } in
    seen_more commands seen row old mid c.leave_out.new.self c.in_ok-at.is_touched was refl refl refl refl
    (subst (λ (k : List Key). IsAfterKeyPuts c.in_ok-at.is_touched row k (is_beyond old.purged) seen c.in_ok-at.at c.put_up_to.new.edits.items was.planned.count was.planned.olds) c.deref.ensures.value
    (c.in_ok-at.ensures (is_beyond old.purged) seen was.planned.count was.planned.olds
    (subst (λ (k : List Key). IsBeforeRowEdit row k (is_beyond old.purged) seen old.at old.edits.items was.planned.count was.planned.olds) (sym c.deref.ensures.value)
    (before_next old.keys.items old.at row (is_beyond old.purged) seen old.edits.items was.planned.count was.planned.olds was.planned.planned))))
    (subst (λ (b : Bool). PlansOn b row mid c.leave_out.new.self) (sym c.if-is_touched.false) c.in_ok-leave_out.ensures)
