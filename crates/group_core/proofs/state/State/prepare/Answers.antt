use Rattle.std.proofs.Common.{◌≡◌, true, false}
use Rattle.group_core.proofs.States.{leaves_none}
use Rattle.group_core.proofs.Begin.{looked_so, leaves_look, read_on_so, no_memory_so, fault_so, read_damaged_so}
use Rattle.group_core.proofs.state.State.prepare.Goals as goal

pub returns-in_err-may_begin-clause-any_moment : goal.returns-in_err-may_begin-clause-any_moment
returns-in_err-may_begin-clause-any_moment g c = leaves_none c.self.view_is c.self.invariant

pub invariant_of-self : goal.invariant_of-self
invariant_of-self g c =
    read_on_so _ _ c.self.invariant (g.met.D.Device.whole c.self.inside.device) _ c.self.view_is c.in_ok-may_begin.ensures _ c.other-half.ensures _ c.in-Ok.ensures.looks c.self.inside.stopped (λ is. is) _ c.in-Ok.ensures.from

pub returns-in-Ok-clause-any_moment : goal.returns-in-Ok-clause-any_moment
returns-in-Ok-clause-any_moment g c =
    leaves_look c.self.view_is c.self.invariant
    (read_on_so _ _ c.self.invariant (g.met.D.Device.whole c.self.inside.device) _ c.self.view_is c.in_ok-may_begin.ensures _ c.other-half.ensures _ c.in-Ok.ensures.looks c.self.inside.stopped (λ is. is) _ c.in-Ok.ensures.from) (looked_so c.in-Ok.ensures.looks)

pub returns-in-Err-NoMemory-clause-step : goal.returns-in-Err-NoMemory-clause-step
returns-in-Err-NoMemory-clause-step g c =
    no_memory_so _ _ c.self.invariant (g.met.D.Device.whole c.self.inside.device) _ c.self.view_is c.in_ok-may_begin.ensures _ c.other-half.ensures _
    c.in-Err-NoMemory.field-0 c.in-Err-NoMemory.field-0-is c.in-Err-NoMemory.ensures.looks _ c.in-Err-NoMemory.ensures.anew

pub invariant_of-self-in-Err-NoMemory : goal.invariant_of-self-in-Err-NoMemory
invariant_of-self-in-Err-NoMemory g c =
    read_on_so _ _ c.self.invariant (g.met.D.Device.whole c.self.inside.device) _ c.self.view_is c.in_ok-may_begin.ensures _ c.other-half.ensures _ c.in-Err-NoMemory.ensures.looks c.self.inside.stopped (λ is. is) _ c.in-Err-NoMemory.ensures.from

pub returns-in-Err-NoMemory-clause-any_moment : goal.returns-in-Err-NoMemory-clause-any_moment
returns-in-Err-NoMemory-clause-any_moment g c = leaves_look c.self.view_is c.self.invariant (invariant_of-self-in-Err-NoMemory g c) (looked_so c.in-Err-NoMemory.ensures.looks)

pub returns-in-Err-Fault-clause-step : goal.returns-in-Err-Fault-clause-step
returns-in-Err-Fault-clause-step g c =
    fault_so _ _ c.self.invariant (g.met.D.Device.whole c.self.inside.device) _ c.self.view_is c.in_ok-may_begin.ensures _ c.other-half.ensures _
    c.in-Err-Fault.field-0 c.in-Err-Fault.field-0-is c.in-Err-Fault.ensures.looks _ c.in-Err-Fault.ensures.anew

pub invariant_of-self-in-Err-Fault : goal.invariant_of-self-in-Err-Fault
invariant_of-self-in-Err-Fault g c =
    read_on_so _ _ c.self.invariant (g.met.D.Device.whole c.self.inside.device) _ c.self.view_is c.in_ok-may_begin.ensures _ c.other-half.ensures _ c.in-Err-Fault.ensures.looks true (λ (is : true ≡ false). cc) _ c.in-Err-Fault.ensures.from

pub returns-in-Err-Fault-clause-any_moment : goal.returns-in-Err-Fault-clause-any_moment
returns-in-Err-Fault-clause-any_moment g c = leaves_look c.self.view_is c.self.invariant (invariant_of-self-in-Err-Fault g c) (looked_so c.in-Err-Fault.ensures.looks)

pub invariant_of-self-in-Err-Damaged : goal.invariant_of-self-in-Err-Damaged
invariant_of-self-in-Err-Damaged g c =
    read_on_so _ _ c.self.invariant (g.met.D.Device.whole c.self.inside.device) _ c.self.view_is c.in_ok-may_begin.ensures _ c.other-half.ensures _ c.in-Err-Damaged.ensures.looks true (λ (is : true ≡ false). cc) _ c.in-Err-Damaged.ensures.from

pub returns-in-Err-Damaged-clause-any_moment : goal.returns-in-Err-Damaged-clause-any_moment
returns-in-Err-Damaged-clause-any_moment g c = leaves_look c.self.view_is c.self.invariant (invariant_of-self-in-Err-Damaged g c) (looked_so c.in-Err-Damaged.ensures.looks)

pub returns-in-Err-Damaged-clause-step : goal.returns-in-Err-Damaged-clause-step
returns-in-Err-Damaged-clause-step g c =
    read_damaged_so _ _ c.self.invariant (g.met.D.Device.whole c.self.inside.device) _ c.self.view_is c.in_ok-may_begin.ensures _ c.other-half.ensures _ c.in-Err-Damaged.field-0 c.in-Err-Damaged.field-0-is c.in-Err-Damaged.ensures.looks c.in-Err-Damaged.ensures.damaged _ c.in-Err-Damaged.ensures.anew
