-- The lemmas that other crates cite, which is all that they take from these proofs.

-- a row above all rows of a list; what is above a row is above the rows before it
pub use Rattle.row_map.proofs.Order.{AllAbove, above_less}
-- the keys rise and the segments are whole after puts and after a test
pub use Rattle.row_map.proofs.Rising.{rising_puts, rising_filtered, database_puts, database_filtered}
-- the view of the last row
pub use Rattle.row_map.proofs.Ends.{last_seen}
-- the key by which a row is searched is its own
pub use Rattle.row_map.proofs.Indices.{key_is}
-- a removal under a key that no row has
pub use Rattle.row_map.proofs.Found.{none_removed}
-- rows and keys; the row under a key after puts, and after a test
pub use Rattle.row_map.proofs.Keys.{its_key, others_behind, equal_from, another_key, under_other, puts_leave, test_leaves}
-- rows whose keys rise are determined by the row under each key
pub use Rattle.row_map.proofs.Canon.{database_is_canonical}
-- a row that is found is under its key; the row under a key after a removal
pub use Rattle.row_map.proofs.PutRow.{found_is_under, is_key_itself, removal_leaves, no_items, kept_rows, kept_change, updated_change}
-- index keys
pub use Rattle.row_map.proofs.IndexKeys.{AreSame, EndOf, same_if, same_from, one_index_key, both_from, first_from, second_from, either_from, or_first, or_second, number_itself, settled_new}
-- two tests
pub use Rattle.row_map.proofs.After.{and_true, both_kept}
-- what holds of each row; the rows that a purge drops
pub use Rattle.row_map.proofs.Bucketed.{all_implied, all_both, all_before}
pub use Rattle.row_map.proofs.Purged.{all_filtered, dropped_one, none_left, outlast_bounded}
