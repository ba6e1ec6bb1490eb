-- The store before and after.
use Rattle.std.proofs.Common.{ap}
use Rattle.byte_lists.specs.Sectors.{padded}
use Rattle.store_open.proofs.Behind.{kept_here}
use Rattle.store_open.proofs.AtRest.{left_alone, settled_before, leaves_rows, leaves_behind, broken_store, whole_store, made_so}
use Rattle.store_open.proofs.store.Store.checkpoint.Goals as goal

pub returns-in_err-may_checkpoint-clause-any_moment : goal.returns-in_err-may_checkpoint-clause-any_moment
returns-in_err-may_checkpoint-clause-any_moment g c = left_alone _ c.self.invariant _ c.self.view_is

pub returns-in_default-clause-any_moment : goal.returns-in_default-clause-any_moment
returns-in_default-clause-any_moment g c = left_alone _ c.self.invariant _ c.self.view_is

pub returns-in_err-may_checkpoint-clause-behind : goal.returns-in_err-may_checkpoint-clause-behind
returns-in_err-may_checkpoint-clause-behind g c = kept_here _ _

pub returns-in_default-clause-behind : goal.returns-in_default-clause-behind
returns-in_default-clause-behind g c = kept_here _ _

pub take_over-requires-clause-clean : goal.take_over-requires-clause-clean
take_over-requires-clause-clean g c = settled_before _ c.self.invariant _ c.self.view_is c.in_ok-may_checkpoint.ensures

pub invariant_of-self : goal.invariant_of-self
invariant_of-self g c =
    whole_store _ c.self.invariant (g.met.D.Device.whole c.self.inside.device) _ c.self.view_is c.in_ok-may_checkpoint.ensures c.written_rows_are_counted.ensures _
    (ap padded c.checkpoint_head-head.ensures.spelled) c.checkpoint_head-head.ensures.can _ c.take_over.ensures.any_moment c.in-Ok-take_over.ensures.settled c.in-Ok-take_over.ensures.taken
    _ c.other-self-inside.ensures _ c.encoded_len-self-inside.ensures

pub returns-in-Ok-take_over-clause-answer : goal.returns-in-Ok-take_over-clause-answer
returns-in-Ok-take_over-clause-answer g c =
    made_so _ c.self.invariant (g.met.D.Device.whole c.self.inside.device) _ c.self.view_is c.in_ok-may_checkpoint.ensures c.written_rows_are_counted.ensures _
    (ap padded c.checkpoint_head-head.ensures.spelled) c.checkpoint_head-head.ensures.can _ c.take_over.ensures.any_moment c.in-Ok-take_over.ensures.settled c.in-Ok-take_over.ensures.taken
    _ c.other-self-inside.ensures _ c.encoded_len-self-inside.ensures _ c.in-Ok-take_over.ensures.faults

pub returns-in-Ok-take_over-clause-any_moment : goal.returns-in-Ok-take_over-clause-any_moment
returns-in-Ok-take_over-clause-any_moment g c =
    leaves_rows _ c.self.invariant (g.met.D.Device.whole c.self.inside.device) _ c.self.view_is c.in_ok-may_checkpoint.ensures c.written_rows_are_counted.ensures _
    (ap padded c.checkpoint_head-head.ensures.spelled) c.checkpoint_head-head.ensures.can _ c.take_over.ensures.any_moment

pub returns-in-Ok-take_over-clause-behind : goal.returns-in-Ok-take_over-clause-behind
returns-in-Ok-take_over-clause-behind g c =
    leaves_behind _ c.self.invariant (g.met.D.Device.whole c.self.inside.device) _ c.self.view_is c.in_ok-may_checkpoint.ensures c.written_rows_are_counted.ensures _
    (ap padded c.checkpoint_head-head.ensures.spelled) c.checkpoint_head-head.ensures.can _ c.take_over.ensures.any_moment

pub invariant_of-self-in-Err : goal.invariant_of-self-in-Err
invariant_of-self-in-Err g c =
    broken_store _ c.self.invariant (g.met.D.Device.whole c.self.inside.device) _ c.self.view_is c.in_ok-may_checkpoint.ensures c.written_rows_are_counted.ensures _
    (ap padded c.checkpoint_head-head.ensures.spelled) c.checkpoint_head-head.ensures.can _ c.take_over.ensures.any_moment

pub returns-clause-any_moment : goal.returns-clause-any_moment
returns-clause-any_moment g c =
    leaves_rows _ c.self.invariant (g.met.D.Device.whole c.self.inside.device) _ c.self.view_is c.in_ok-may_checkpoint.ensures c.written_rows_are_counted.ensures _
    (ap padded c.checkpoint_head-head.ensures.spelled) c.checkpoint_head-head.ensures.can _ c.take_over.ensures.any_moment

pub returns-clause-behind : goal.returns-clause-behind
returns-clause-behind g c =
    leaves_behind _ c.self.invariant (g.met.D.Device.whole c.self.inside.device) _ c.self.view_is c.in_ok-may_checkpoint.ensures c.written_rows_are_counted.ensures _
    (ap padded c.checkpoint_head-head.ensures.spelled) c.checkpoint_head-head.ensures.can _ c.take_over.ensures.any_moment
