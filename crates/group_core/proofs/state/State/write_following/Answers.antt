use Rattle.std.proofs.Common.{◌≡◌, inl, refl, ◌∙◌, arith}
use Rattle.group_phases.specs.declared.phases.Flush.TheVariants.{Resting as resting, Following as following, Followed as followed}
use Rattle.group_core.proofs.Soundness.{flushing}
use Rattle.group_core.proofs.States.{leaves_write}
use Rattle.group_core.proofs.FlushSteps.{flush_at, call_fails, call_made}
use Rattle.group_core.proofs.FollowSteps.{follower_inside, follower_write_is, follower_written, follower_not_written}
use Rattle.group_core.specs.StepCalls.{follower_write}
use Rattle.group_core.proofs.state.State.write_following.Goals as goal

pub invariant_of-self : goal.invariant_of-self
invariant_of-self g c =
    follower_written _ _ c.self.invariant _ _ (flush_at c.self.view_is c.in_ok-value.ensures.turn) (omega (arith, c.journal_at.ensures, c.len.ensures)) c.deref.ensures.value _ _ _ c.in-Ok.ensures.write

pub invariant_of-self-in-Err : goal.invariant_of-self-in-Err
invariant_of-self-in-Err g c =
    follower_not_written _ _ c.self.invariant _ _ (flush_at c.self.view_is c.in_ok-value.ensures.turn) (omega (arith, c.journal_at.ensures, c.len.ensures)) c.deref.ensures.value _ _ _ _ _ c.fault.ensures.stopped c.in-Err.ensures.write

pub returns-in-Ok-clause-any_moment : goal.returns-in-Ok-clause-any_moment
returns-in-Ok-clause-any_moment g c =
    leaves_write (c.self.view_is ∙ c.in_ok-value.ensures.turn.3) c.self.invariant (invariant_of-self g c) (flushing following (flush_at c.self.view_is c.in_ok-value.ensures.turn) (λ (is : following ≡ resting). cc)) (inl (λ (is : followed ≡ resting). cc)) refl c.write.ensures.write (g.met.D.Device.whole c.self.inside.device)
    (follower_inside _ _ c.self.invariant _ _ (flush_at c.self.view_is c.in_ok-value.ensures.turn) (omega (arith, c.journal_at.ensures, c.len.ensures)) c.deref.ensures.value)

pub returns-in-Err-clause-any_moment : goal.returns-in-Err-clause-any_moment
returns-in-Err-clause-any_moment g c =
    leaves_write (c.self.view_is ∙ c.in_ok-value.ensures.turn.3) c.self.invariant (invariant_of-self-in-Err g c) (flushing following (flush_at c.self.view_is c.in_ok-value.ensures.turn) (λ (is : following ≡ resting). cc)) (flushing following (flush_at c.self.view_is c.in_ok-value.ensures.turn) (λ (is : following ≡ resting). cc)) refl c.write.ensures.write (g.met.D.Device.whole c.self.inside.device)
    (follower_inside _ _ c.self.invariant _ _ (flush_at c.self.view_is c.in_ok-value.ensures.turn) (omega (arith, c.journal_at.ensures, c.len.ensures)) c.deref.ensures.value)

pub returns-in-Ok-clause-call : goal.returns-in-Ok-clause-call
returns-in-Ok-clause-call g c =
    call_made _ _ _ _ _ follower_write (c.self.view_is ∙ c.in_ok-value.ensures.turn.3)
    (follower_write_is _ _ c.self.invariant _ _ (flush_at c.self.view_is c.in_ok-value.ensures.turn) (omega (arith, c.journal_at.ensures, c.len.ensures)) c.deref.ensures.value) c.in-Ok.ensures.write

pub returns-in-Err-clause-call : goal.returns-in-Err-clause-call
returns-in-Err-clause-call g c =
    call_fails _ _ _ follower_write (c.self.view_is ∙ c.in_ok-value.ensures.turn.3) c.fault.ensures.fault
    (follower_write_is _ _ c.self.invariant _ _ (flush_at c.self.view_is c.in_ok-value.ensures.turn) (omega (arith, c.journal_at.ensures, c.len.ensures)) c.deref.ensures.value) c.in-Err.ensures.write
