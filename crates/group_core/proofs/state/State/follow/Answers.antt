use Rattle.std.proofs.Common.{◌+◌, ◌-◌, take, drop, refl, sym, subst}
use Rattle.group_core.specs.StateView.{StateView}
use Rattle.group_core.specs.Following.{MayFollow, TakesFollower}
use Rattle.group_core.proofs.States.{leaves_none, leaves_pure}
use Rattle.group_core.proofs.FollowSteps.{follower_staged_so, later_front_so}
use Rattle.group_core.proofs.state.State.follow.Goals as goal

pub returns-in-Err-clause-any_moment : goal.returns-in-Err-clause-any_moment
returns-in-Err-clause-any_moment g c = leaves_none c.self.view_is c.self.invariant

pub returns-in_default-clause-any_moment : goal.returns-in_default-clause-any_moment
returns-in_default-clause-any_moment g c = leaves_none c.self.view_is c.self.invariant

pub invariant_of-self : goal.invariant_of-self
invariant_of-self g c =
    let may = subst (λ (v : StateView). MayFollow c.args.value v) (sym c.self.view_is) c.in-Ok.ensures.0 in
    let takes = subst (λ (v : StateView). TakesFollower v c.in-Ok.count) (sym c.self.view_is) c.in-Ok.ensures.1 in
    follower_staged_so _ _ c.self.invariant c.args.value may c.in-Ok.count takes c.in-Ok-group_bytes.bytes.items
    (take (c.self.inside.taken + c.in-Ok.count - c.self.inside.taken) (drop c.self.inside.taken c.deref.result.now))
    c.in-Ok-group_bytes.ensures
    (later_front_so c.self.inside.taken c.in-Ok.count c.self.inside.pending.items c.deref.result.now c.deref.ensures.value)

pub returns-clause-any_moment : goal.returns-clause-any_moment
returns-clause-any_moment g c = leaves_pure c.self.view_is c.self.invariant (invariant_of-self g c) refl
