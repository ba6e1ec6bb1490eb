-- The lemmas that other crates cite, which is all that they take from these proofs.

-- one range: its parts, from moment to moment, and in images
pub use Rattle.group_phases.proofs.Ranges.{part_of_part, parts_joined, is_in_every_image, has_settled_parts, joins_neighbours, reads_as_before, clean_kept, stays_settled, has_untouched_parts, stays_on_and_on, clean_stays_in_images}
-- what one call leaves
pub use Rattle.group_phases.proofs.Calls.{landed_beside, writes_leave_what_is_beside, writes_are_read, syncs_leave_all, syncs_settle, write_moments, sync_moments, writes_are_one_moment, syncs_are_no_moment}
-- the flusher's part: what stays of it, and what the tail's journal reads as
pub use Rattle.group_phases.proofs.TailReads.{same_long, journal_byte, sectors_same, fewer, load_room, sectors_kept, groups_kept, closed_kept, open_kept, load_kept, part_kept, reads_without, reads_with, reads_either, reads_by_its_part}
-- facts of the halves
pub use Rattle.group_phases.proofs.HalfReads.{head_of_checkpoint, title_kept, open_reads_kept, closed_reads_kept, open_half_kept, closed_half_kept, first_reads_kept, first_kept, checkpoint_kept, head_kept}
-- what images open to
pub use Rattle.group_phases.proofs.Openings.{opens_plain, opens_sealed, base_images}
pub use Rattle.group_phases.proofs.CommitStates.{unsealed_may, opens_by_both_parts}
-- what one actor leaves to the other
pub use Rattle.group_phases.proofs.Kept.{whole_journal, keeps_flusher_part, checkpoint_inside, front_gate, front_area, front_checkpoint, half_front, half_journal, half_first, old_kept, new_kept, written_kept, base_kept, keeps_base_part, journal_apart_beside, beside_apart, beside_inside, tail_writes_leave_base, base_writes_leave_tail, syncs_leave_both}
-- the flusher's steps
pub use Rattle.group_phases.proofs.FlusherSteps.{length-seal, length-load, length-open_gate, closed_gate_closed, writes_in_journal, written_part, journal_part, synced_clean, writes_load, syncs_load, opens_tail_gate, syncs_tail_gate, publishes_group}
-- a group that follows: its steps, and what stays of it
pub use Rattle.group_phases.proofs.FollowingSteps.{writes_follower, syncs_follower, publishes_follower, keeps_follower}
pub use Rattle.group_phases.proofs.Followers.{take_front, drop_front, keeps_followed, follows_under_larger_limits, follows_before_more}
-- the checkpointer's steps
pub use Rattle.group_phases.proofs.CheckpointerSteps.{stays_under_larger_limits, takes_the_new_version, publishes_seal, begins_plan, writes_chunk, syncs_chunks, opens_half, syncs_half, closes_half, syncs_close, writes_beside_journal}
-- both parts at once
pub use Rattle.group_phases.proofs.HeldSteps.{held_flushed, held_while_load_is_written, held_while_gate_is_opened, held_while_load_is_synced, held_while_gate_is_synced, writes_leave_fronts, syncs_leave_fronts}
pub use Rattle.group_phases.proofs.HeldChecks.{held_checked, held_while_chunk_is_written, held_while_chunks_are_synced, held_while_half_is_opened, held_while_half_is_synced, held_while_half_is_closed, held_while_close_is_synced}
pub use Rattle.group_phases.proofs.HeldTurns.{held_when_group_is_published, held_when_seal_is_published, held_when_plan_begins, held_under_the_new_version}
pub use Rattle.group_phases.proofs.HeldCommands.{held_when_accepted, held_when_group_is_staged, held_when_seal_is_staged}
pub use Rattle.group_phases.proofs.HeldOpened.{held_at_rest, held_behind_seal}
pub use Rattle.group_phases.proofs.HeldFollowing.{held_when_follower_is_staged, held_while_follower_is_written, held_while_followed_is_synced, held_when_followed_is_published}
