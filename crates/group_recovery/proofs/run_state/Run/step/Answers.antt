use Rattle.std.proofs.Common.{◌≡◌, true}
use Rattle.group_phases.specs.declared.phases.Flush.TheVariants as flush
use Rattle.group_phases.specs.declared.phases.Check.TheVariants as check
use Rattle.group_core.specs.Steps.{spent, half_counts}
use Rattle.group_recovery.proofs.Held.{flush_rest, stage_rest, follow_rest, check_rest, chunk_rest, begin_rest, prepare_holding, planned_busy, at_busy, flush_holding, check_holding}
use Rattle.group_recovery.proofs.Runs.{publish_holding, publish_followed_holding, halt_holding}
use Rattle.group_recovery.proofs.run_state.Run.step.Goals as goal

pub invariant_of-self-in-Stage : goal.invariant_of-self-in-Stage
invariant_of-self-in-Stage g c =
    flush_holding (stage_rest c.self.inside.state c.stage.result c.stage.new.state c.stage.ensures.step) c.self.invariant c.stage.ensures.held

pub invariant_of-self-in-WriteGroup : goal.invariant_of-self-in-WriteGroup
invariant_of-self-in-WriteGroup g c =
    flush_holding (flush_rest c.self.inside.state flush.Staged flush.Written flush.Staged c.write_group.result c.write_group.new.state c.write_group.ensures.step) c.self.invariant c.write_group.ensures.held

pub invariant_of-self-in-SyncGroup : goal.invariant_of-self-in-SyncGroup
invariant_of-self-in-SyncGroup g c =
    flush_holding (flush_rest c.self.inside.state flush.Written flush.Stable flush.Written c.sync_group.result c.sync_group.new.state c.sync_group.ensures.step) c.self.invariant c.sync_group.ensures.held

pub invariant_of-self-in-OpenGate : goal.invariant_of-self-in-OpenGate
invariant_of-self-in-OpenGate g c =
    flush_holding (flush_rest c.self.inside.state flush.Stable flush.Opened flush.Doubtful c.open_gate.result c.open_gate.new.state c.open_gate.ensures.step) c.self.invariant c.open_gate.ensures.held

pub invariant_of-self-in-SyncGate : goal.invariant_of-self-in-SyncGate
invariant_of-self-in-SyncGate g c =
    flush_holding (flush_rest c.self.inside.state flush.Opened flush.Durable flush.Opened c.sync_gate.result c.sync_gate.new.state c.sync_gate.ensures.step) c.self.invariant c.sync_gate.ensures.held

pub invariant_of-self-in-Publish : goal.invariant_of-self-in-Publish
invariant_of-self-in-Publish g c =
    publish_holding c.publish.result c.self.inside.state c.publish.new.state c.stops_leave_fronts.ensures.taken c.publish.ensures.step c.self.invariant c.publish.ensures.held

pub invariant_of-self-in-Follow : goal.invariant_of-self-in-Follow
invariant_of-self-in-Follow g c =
    flush_holding (follow_rest c.self.inside.state c.follow.result c.follow.new.state c.follow.ensures.step) c.self.invariant c.follow.ensures.held

pub invariant_of-self-in-WriteFollowing : goal.invariant_of-self-in-WriteFollowing
invariant_of-self-in-WriteFollowing g c =
    flush_holding (flush_rest c.self.inside.state flush.Following flush.Followed flush.Following c.write_following.result c.write_following.new.state c.write_following.ensures.step) c.self.invariant c.write_following.ensures.held

pub invariant_of-self-in-SyncFollowed : goal.invariant_of-self-in-SyncFollowed
invariant_of-self-in-SyncFollowed g c =
    flush_holding (flush_rest c.self.inside.state flush.Followed flush.DurableFollowed flush.Followed c.sync_followed.result c.sync_followed.new.state c.sync_followed.ensures.step) c.self.invariant c.sync_followed.ensures.held

pub invariant_of-self-in-PublishFollowed : goal.invariant_of-self-in-PublishFollowed
invariant_of-self-in-PublishFollowed g c =
    publish_followed_holding c.publish_followed.result c.self.inside.state c.publish_followed.new.state c.stops_leave_fronts-in-PublishFollowed.ensures.taken c.publish_followed.ensures.step c.self.invariant c.publish_followed.ensures.held

pub invariant_of-self-in-Prepare : goal.invariant_of-self-in-Prepare
invariant_of-self-in-Prepare g c =
    prepare_holding c.prepare.result c.prepare.ensures.step c.self.invariant

pub invariant_of-self-in-Begin : goal.invariant_of-self-in-Begin
invariant_of-self-in-Begin g c =
    check_holding (begin_rest c.self.inside.state c.begin.result c.begin.new.state c.begin.ensures.step) c.self.invariant c.begin.ensures.held

pub invariant_of-self-in-WriteChunk : goal.invariant_of-self-in-WriteChunk
invariant_of-self-in-WriteChunk g c =
    check_holding (chunk_rest c.self.inside.state c.write_chunk.result c.write_chunk.new.state c.write_chunk.ensures.step) c.self.invariant c.write_chunk.ensures.held

pub invariant_of-self-in-SyncChunks : goal.invariant_of-self-in-SyncChunks
invariant_of-self-in-SyncChunks g c =
    check_holding (check_rest c.self.inside.state _ (planned_busy c.self.inside.state true) check.Laid c.self.inside.state.plan c.self.inside.state.written c.self.inside.state.epoch c.self.inside.state.version check.Planned c.sync_chunks.result c.sync_chunks.new.state c.sync_chunks.ensures.step) c.self.invariant c.sync_chunks.ensures.held

pub invariant_of-self-in-OpenHalf : goal.invariant_of-self-in-OpenHalf
invariant_of-self-in-OpenHalf g c =
    check_holding (check_rest c.self.inside.state _ (at_busy c.self.inside.state check.Laid (λ (same : check.Laid ≡ check.Ready). cc)) check.Switched c.self.inside.state.plan c.self.inside.state.written c.self.inside.state.epoch c.self.inside.state.version check.SwitchFailed c.open_half.result c.open_half.new.state c.open_half.ensures.step) c.self.invariant c.open_half.ensures.held

pub invariant_of-self-in-SyncHalf : goal.invariant_of-self-in-SyncHalf
invariant_of-self-in-SyncHalf g c =
    check_holding (check_rest c.self.inside.state _ (at_busy c.self.inside.state check.Switched (λ (same : check.Switched ≡ check.Ready). cc)) check.Live c.self.inside.state.plan c.self.inside.state.written (half_counts c.self.inside.state).epoch (half_counts c.self.inside.state).version check.Switched c.sync_half.result c.sync_half.new.state c.sync_half.ensures.step) c.self.invariant c.sync_half.ensures.held

pub invariant_of-self-in-CloseHalf : goal.invariant_of-self-in-CloseHalf
invariant_of-self-in-CloseHalf g c =
    check_holding (check_rest c.self.inside.state _ (at_busy c.self.inside.state check.Live (λ (same : check.Live ≡ check.Ready). cc)) check.Closing c.self.inside.state.plan c.self.inside.state.written c.self.inside.state.epoch c.self.inside.state.version check.CloseFailed c.close_half.result c.close_half.new.state c.close_half.ensures.step) c.self.invariant c.close_half.ensures.held

pub invariant_of-self-in-SyncClose : goal.invariant_of-self-in-SyncClose
invariant_of-self-in-SyncClose g c =
    check_holding (check_rest c.self.inside.state _ (at_busy c.self.inside.state check.Closing (λ (same : check.Closing ≡ check.Ready). cc)) check.Ready (spent c.self.inside.state.plan) c.self.inside.state.written c.self.inside.state.epoch c.self.inside.state.version check.Closing c.sync_close.result c.sync_close.new.state c.sync_close.ensures.step) c.self.invariant c.sync_close.ensures.held

pub invariant_of-self-in-Halt : goal.invariant_of-self-in-Halt
invariant_of-self-in-Halt g c =
    halt_holding c.halt.ensures.halted c.self.invariant
