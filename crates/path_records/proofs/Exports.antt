-- The lemmas that other crates cite, which is all that they take from these proofs.

-- the bytes that are read as a command are its record, and are read as the same command where
-- removals are allowed
pub use Rattle.path_records.proofs.Spelled.{command_spelled, command_read_on}
-- the record of a command within its limits is read as that command
pub use Rattle.path_records.proofs.ReadBack.{command_read_back}
-- the rows that bytes are read as, given the rows that a cursor returned
pub use Rattle.path_records.proofs.CursorEnds.{given_all, given_cut, BeginsWith, given_begin}
