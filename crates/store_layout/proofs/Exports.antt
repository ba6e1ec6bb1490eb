-- The lemmas that other crates cite, which is all that they take from these proofs.

-- the encoding of a group or a seal is read as one: its header and its records
pub use Rattle.store_layout.proofs.Groups.{group_header_true, group_header_from, seal_header_true, seal_header_from, records_read, payload_group, payload_seal}
-- a chain of groups: it goes forward, depends on the bytes before its end, grows by one group, and
-- reading continues after it
pub use Rattle.store_layout.proofs.Chains.{AgreeBefore, part_agrees, sector_agrees, chain_forward, chain_room, chain_agrees, chain_more, all_of_more, chain_scan, end_scan, journal_read}
pub use Rattle.store_layout.proofs.Bounds.{chain_seal_room, chain_places, chain_allowed, stays_within_bounds}
-- the payload after a gate that was read, and the meaning of a refusal there
pub use Rattle.store_layout.proofs.Inverse.{check_passed, StandsBehind, payload_from}
pub use Rattle.store_layout.proofs.Refused.{payload_refused, refused_payload}
-- a whole journal that was read, or refused
pub use Rattle.store_layout.proofs.Scans.{read_journal, refused_journal, journal_refused}
-- a group or a seal is written after the tail's gate, and then the gate
pub use Rattle.store_layout.proofs.Staged.{length-group_encoding, kept_by_writes_behind, made_ready, made_ready_for_seal, later_allow_more}
pub use Rattle.store_layout.proofs.Growth.{agree_from_fronts, agree_fewer, ends_agree, goes_by_its_front, grows_by_its_gate, sealed_by_its_gate}
-- larger limits
pub use Rattle.store_layout.proofs.Growth.{group_larger, chain_larger, read_under_larger_limits}
-- sector 0, heads and checkpoints: read, written, and refused
pub use Rattle.store_layout.proofs.Titles.{begins_with, split_part, geometry_true, geometry_from, store_read, store_from, first_sector_makes_store}
pub use Rattle.store_layout.proofs.Heads.{four_small, eight_small, part_take, take_take, magic_is, version_is, numbers_are, head_read, head_from, refused_from_magic, refused_head, head_goes_by_its_front}
pub use Rattle.store_layout.proofs.Checkpoints.{begins_with_its_head, db_read, checkpoint_read, checkpoint_from, written_front, written_there, pieces_written, whole_there, first_can_be}
-- the regions of an image, and the regions that a write does not change
pub use Rattle.store_layout.proofs.Places.{other_twice, half_inside, area_inside, gate_inside, journal_inside, area_long, gate_long, journal_long, area_bytes, journal_bytes, store_area, store_journal}
pub use Rattle.store_layout.proofs.Writes.{regions_apart, regions_inside, writes_leave_apart, writes_leave_others, part_written, writes_change_their_region}
-- the opening of an image
pub use Rattle.store_layout.proofs.Openings.{open_head, closed_head, own_head, half_chosen, chosen_read, opening_read}
pub use Rattle.store_layout.proofs.Opened.{opening_from, value_read, value_from, has_one_value, chosen_later, opens_later, opens_under_later_versions}
-- the bytes of an image that count, and when two images have the same value
pub use Rattle.store_layout.proofs.Counts.{front_same, gate_same, store_same, head_same, checkpoint_same, journal_same, goes_by_the_chosen_half, goes_by_what_counts, spans_kept, kept_by_writes_elsewhere}
pub use Rattle.store_layout.proofs.TakeOver.{empty_read, same_value, same_value_at_rest, takes_over_the_same, takes_over_the_same_at_rest, opens_empty}
-- an image is refused exactly where the definition of the refusal holds
pub use Rattle.store_layout.proofs.Refusals.{refused_where, refused_from}
-- the last journal is written: a group or a seal after the last gate, and then the gate
pub use Rattle.store_layout.proofs.StoreGrowth.{folds_in_parts, halves_differ, size_kept, region_kept, journal_written, title_kept, areas_kept, gates_kept, journal_kept, still_chosen, in_image, goes_by_last, last_is, last_unsealed, grown_value, store_goes_by_its_last_journal, store_is_made_ready, store_grows_by_its_gate}
pub use Rattle.store_layout.proofs.Seals.{store_is_made_ready_for_seal, store_is_sealed_by_its_gate}
-- a half's gate is written, and an older half changes
pub use Rattle.store_layout.proofs.Switch.{gate_size, gate_there, area_beside, journal_beside, gate_beside, store_beside, stays, is_switched, switches_by_the_gate, switches_by_the_gate_at_rest, older_half_may_change}
-- an opening depends on its regions alone
pub use Rattle.store_layout.proofs.ByRegions.{KeepsRegions, opens_by_regions, closed_area_may_change}
