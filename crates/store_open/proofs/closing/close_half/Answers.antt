-- Each way out: one read or two, and a write.
use Rattle.std.proofs.Common.{◌∙◌, arith, refl, ap}
use Rattle.sector_dev.specs.Disk.{History}
use Rattle.sector_dev.proofs.Stretches.{keeps_then, honest_after}
use Rattle.store_layout.specs.Geometry.{geometry_view}
use Rattle.store_open.proofs.Gates.{gates_inside, gates_read, both_written, both_closed, first_written, first_closed, none_closed, gate_isnt_closed, first_isnt_closed, told}
use Rattle.store_open.proofs.closing.close_half.Goals as goal

pub returns-in_err-is_open_at-clause-any_moment : goal.returns-in_err-is_open_at-clause-any_moment
returns-in_err-is_open_at-clause-any_moment g c =
    gates_read (geometry_view c.args.geometry) c.args.half _ c.requires.allowed c.requires.room (g.met.D.Device.whole c.args.device.now) c.requires.clean _
    c.is_open_at.ensures.looks.keeps c.is_open_at.ensures.looks.history

pub write-requires-clause-inside : goal.write-requires-clause-inside
write-requires-clause-inside g c =
    omega (arith, c.is_open_at.ensures.looks.keeps.sectors, c.requires.room, gates_inside (geometry_view c.args.geometry) c.args.half (omega (arith, c.requires.allowed)), c.gate_at-gate.ensures, c.closed_gates.ensures.size)

pub returns-then-branch-clause-any_moment : goal.returns-then-branch-clause-any_moment
returns-then-branch-clause-any_moment g c =
    both_written (geometry_view c.args.geometry) c.args.half _ c.requires.allowed c.requires.room (g.met.D.Device.whole c.args.device.now) c.requires.clean _
    c.is_open_at.ensures.looks.keeps c.is_open_at.ensures.looks.history _ _ _ _ c.gate_at-gate.ensures c.closed_gates.ensures.same c.write.ensures.write
    (λ honest. told _ _ _ _ _ _ c.gate_at-gate.ensures refl (c.in_ok-is_open_at.ensures.open honest) c.if-branch.true)

pub returns-then-branch-clause-closed : goal.returns-then-branch-clause-closed
returns-then-branch-clause-closed g c =
    both_closed (geometry_view c.args.geometry) c.args.half _ c.requires.allowed c.requires.room (g.met.D.Device.whole c.args.device.now) c.requires.clean _
    c.is_open_at.ensures.looks.keeps c.is_open_at.ensures.looks.history _ _ _ _ c.gate_at-gate.ensures c.closed_gates.ensures.same c.write.ensures.write

pub returns-in_err-is_open_at-2-clause-any_moment : goal.returns-in_err-is_open_at-2-clause-any_moment
returns-in_err-is_open_at-2-clause-any_moment g c =
    gates_read (geometry_view c.args.geometry) c.args.half _ c.requires.allowed c.requires.room (g.met.D.Device.whole c.args.device.now) c.requires.clean _
    (keeps_then _ _ _ c.is_open_at.ensures.looks.keeps c.is_open_at-2.ensures.looks.keeps)
    (λ honest. c.is_open_at-2.ensures.looks.history (honest_after _ _ c.is_open_at.ensures.looks.keeps honest) ∙ c.is_open_at.ensures.looks.history honest)

pub returns-then-branch-clause-unwritten : goal.returns-then-branch-clause-unwritten
returns-then-branch-clause-unwritten g c = λ honest closed.
    absurd
    (gate_isnt_closed (geometry_view c.args.geometry) c.args.half _ c.requires.allowed c.requires.room (g.met.D.Device.whole c.args.device.now) c.requires.clean
    (λ honest. told _ _ _ _ _ _ c.gate_at-gate.ensures refl (c.in_ok-is_open_at.ensures.open honest) c.if-branch.true) honest closed)

pub write-requires-then-branch-2-clause-inside : goal.write-requires-then-branch-2-clause-inside
write-requires-then-branch-2-clause-inside g c =
    omega (arith, c.is_open_at.ensures.looks.keeps.sectors, c.is_open_at-2.ensures.looks.keeps.sectors, c.requires.room, gates_inside (geometry_view c.args.geometry) c.args.half (omega (arith, c.requires.allowed)), c.journal_at-journal.ensures)

pub returns-then-branch-2-clause-any_moment : goal.returns-then-branch-2-clause-any_moment
returns-then-branch-2-clause-any_moment g c =
    first_written (geometry_view c.args.geometry) c.args.half _ c.requires.allowed c.requires.room (g.met.D.Device.whole c.args.device.now) c.requires.clean _
    (keeps_then _ _ _ c.is_open_at.ensures.looks.keeps c.is_open_at-2.ensures.looks.keeps)
    (λ honest. c.is_open_at-2.ensures.looks.history (honest_after _ _ c.is_open_at.ensures.looks.keeps honest) ∙ c.is_open_at.ensures.looks.history honest) _ _ _ _ c.journal_at-journal.ensures c.closed_gate.ensures c.write-then-branch-2.ensures.write

pub returns-then-branch-2-clause-closed : goal.returns-then-branch-2-clause-closed
returns-then-branch-2-clause-closed g c =
    first_closed (geometry_view c.args.geometry) c.args.half _ c.requires.allowed c.requires.room (g.met.D.Device.whole c.args.device.now) c.requires.clean _
    (keeps_then _ _ _ c.is_open_at.ensures.looks.keeps c.is_open_at-2.ensures.looks.keeps)
    (λ honest. c.is_open_at-2.ensures.looks.history (honest_after _ _ c.is_open_at.ensures.looks.keeps honest) ∙ c.is_open_at.ensures.looks.history honest) _ _ _ _ c.journal_at-journal.ensures c.closed_gate.ensures c.write-then-branch-2.ensures.write
    (λ honest. told _ _ _ _ _ _ c.gate_at-gate.ensures refl (c.in_ok-is_open_at.ensures.open honest) c.if-branch.false)

pub returns-in_err-is_open_at-2-clause-unwritten : goal.returns-in_err-is_open_at-2-clause-unwritten
returns-in_err-is_open_at-2-clause-unwritten g c = λ honest closed.
    c.is_open_at-2.ensures.looks.history (honest_after _ _ c.is_open_at.ensures.looks.keeps honest) ∙ c.is_open_at.ensures.looks.history honest

pub returns-then-branch-2-clause-unwritten : goal.returns-then-branch-2-clause-unwritten
returns-then-branch-2-clause-unwritten g c = λ honest closed.
    absurd
    (first_isnt_closed (geometry_view c.args.geometry) c.args.half _ c.requires.allowed c.requires.room (g.met.D.Device.whole c.args.device.now) c.requires.clean
    (λ honest. told _ _ _ _ _ _ c.journal_at-journal.ensures (ap (λ (h : History). h.now.reads) (c.is_open_at.ensures.looks.history honest))
    (c.in_ok-is_open_at-2.ensures.open (honest_after _ _ c.is_open_at.ensures.looks.keeps honest)) c.if-branch-2.true) honest closed)

pub returns-clause-unwritten : goal.returns-clause-unwritten
returns-clause-unwritten g c = λ honest closed.
    c.is_open_at-2.ensures.looks.history (honest_after _ _ c.is_open_at.ensures.looks.keeps honest) ∙ c.is_open_at.ensures.looks.history honest

pub returns-clause-any_moment : goal.returns-clause-any_moment
returns-clause-any_moment g c =
    gates_read (geometry_view c.args.geometry) c.args.half _ c.requires.allowed c.requires.room (g.met.D.Device.whole c.args.device.now) c.requires.clean _
    (keeps_then _ _ _ c.is_open_at.ensures.looks.keeps c.is_open_at-2.ensures.looks.keeps)
    (λ honest. c.is_open_at-2.ensures.looks.history (honest_after _ _ c.is_open_at.ensures.looks.keeps honest) ∙ c.is_open_at.ensures.looks.history honest)

pub returns-clause-closed : goal.returns-clause-closed
returns-clause-closed g c =
    none_closed (geometry_view c.args.geometry) c.args.half _ c.requires.allowed c.requires.room (g.met.D.Device.whole c.args.device.now) c.requires.clean _
    (keeps_then _ _ _ c.is_open_at.ensures.looks.keeps c.is_open_at-2.ensures.looks.keeps)
    (λ honest. c.is_open_at-2.ensures.looks.history (honest_after _ _ c.is_open_at.ensures.looks.keeps honest) ∙ c.is_open_at.ensures.looks.history honest)
    (λ honest. told _ _ _ _ _ _ c.gate_at-gate.ensures refl (c.in_ok-is_open_at.ensures.open honest) c.if-branch.false)
    (λ honest. told _ _ _ _ _ _ c.journal_at-journal.ensures (ap (λ (h : History). h.now.reads) (c.is_open_at.ensures.looks.history honest))
    (c.in_ok-is_open_at-2.ensures.open (honest_after _ _ c.is_open_at.ensures.looks.keeps honest)) c.if-branch-2.false)
