use Rattle.path_db.specs.declared.command.Command.{Command}
use Rattle.store_layout.specs.StoreValues.{value_after}
use Rattle.store_open.specs.PathStores.{store_format}
use Rattle.std.proofs.Common.{List, ◌++◌, take, refl, sym, ◌∙◌, ap, subst, arith}
use Rattle.group_core.proofs.States.{leaves_none, leaves_pure}
use Rattle.group_core.proofs.FollowSteps.{followed_state_so}
use Rattle.group_core.proofs.Redeem.{shown_state}
use Rattle.group_core.specs.Showing.{IsFrontOf}
use Rattle.group_core.specs.Ending.{IsDurableAt}
use Rattle.group_core.proofs.state.State.publish_followed.Goals as goal

pub returns-in_default-clause-any_moment : goal.returns-in_default-clause-any_moment
returns-in_default-clause-any_moment g c = leaves_none c.self.view_is c.self.invariant

pub returns-in_default-show-clause-any_moment : goal.returns-in_default-show-clause-any_moment
returns-in_default-show-clause-any_moment g c =
    leaves_pure c.self.view_is c.self.invariant
    (shown_state _ _ c.self.invariant _ _ _ c.in_default-show.ensures.same c.in_default-show.ensures.same_list
    (subst (λ (list : List Command). IsFrontOf (g.S.Showcase.owed c.show.new.self) (take c.self.inside.taken list)) c.deref.ensures.value c.in_default-show.ensures.owed)
    (subst IsDurableAt (sym c.in-DurableFollowed.is) tt)) refl

pub invariant_of-self-2 : goal.invariant_of-self-2
invariant_of-self-2 g c =
    followed_state_so _ _ c.self.invariant c.in-DurableFollowed.is _ _ _ _ _ _ _ _
    (c.in-Ok.ensures.shown ∙ ap (λ (list : List Command). value_after store_format (g.S.Showcase.value c.self.inside.show) (take c.self.inside.taken list)) c.deref.ensures.value)
    (c.in-Ok.ensures.listed ∙ ap (λ (list : List Command). g.S.Showcase.list c.self.inside.show ++ take c.self.inside.taken list) c.deref.ensures.value)
    (c.drop-drain.ensures.items ∙ c.drain.ensures.kept) (omega (arith, c.len.ensures)) refl c.in-Ok.ensures.paid (λ i. (c.swap.ensures.x_after i).items) (λ i. (c.swap.ensures.y_after i).items)

pub returns-clause-any_moment : goal.returns-clause-any_moment
returns-clause-any_moment g c = leaves_pure c.self.view_is c.self.invariant (invariant_of-self-2 g c) refl
