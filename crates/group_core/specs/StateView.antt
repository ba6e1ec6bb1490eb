-- What contracts see of a state.
use Rattle.std.specs.Prelude.{ℕ, Bool, List}
use Rattle.row_map.specs.Database.{RowView}
use Rattle.path_db.specs.declared.command.Command.{Command}
use Rattle.path_db.specs.declared.outcome.Outcome.{Outcome}
use Rattle.sector_dev.specs.Disk.{Disk}
use Rattle.store_layout.specs.declared.half.Half.{Half}
use Rattle.store_layout.specs.Layout.{Geometry}
use Rattle.store_layout.specs.Opening.{StoreValue}
use Rattle.ckpt_stream.specs.Pieces.{all_pieces}
use Rattle.group_phases.specs.declared.phases.Flush.{Flush}
use Rattle.group_phases.specs.declared.phases.Check.{Check}
use Rattle.group_core.specs.declared.bookkeeping.Turn.{Turn}

-- A state as contracts see it.
pub record StateView : Type 0 where
  -- The device that has the store.
  pub disk : Disk
  -- The sizes of each half's checkpoint area and journal, in sectors.
  pub geometry : Geometry
  -- The state's own number, which its tickets and its commit values have too.
  pub home : ℕ
  -- The rows that are committed, and the number of commands that are, which is the place of the
  -- first pending command.
  pub value : StoreValue (List RowView)
  -- The commands that were committed since the state was made, in their order.
  pub shown : List Command
  -- The commands that are accepted and not committed yet, in the order of their places.
  pub pending : List Command
  -- The outcome of each accepted command whose ticket is not redeemed yet, by the command's place.
  -- Places rise.
  pub kept : List (ℕ × Outcome)
  -- The number of the first pending commands that are in flight: 0 while the flusher rests, and
  -- where a seal is in flight.
  pub taken : ℕ
  -- The number of the pending commands after those taken that follow them as the next group. It
  -- counts only in the phases that have a following group.
  pub following : ℕ
  -- The phase of the flusher.
  pub flush : Flush
  -- The flusher's last commit value.
  pub group : Turn
  -- The phase of the checkpointer.
  pub check : Check
  -- The checkpointer's last commit value.
  pub plan : Turn
  -- The half whose journal has the tail.
  pub half : Half
  -- The tail's gate, in sectors from the start of that journal.
  pub gate : ℕ
  -- The epoch of the half that counts.
  pub epoch : ℕ
  -- The format version of that half.
  pub version : ℕ
  -- The bytes of the last checkpoint that was begun.
  pub checkpoint : List ℕ
  -- The number of sectors of that checkpoint that are written.
  pub written : ℕ
  -- A bound on the calls of `prepare` that are still to come until all pieces of the sealed half are
  -- prepared: 0 once they are.
  pub unprepared : ℕ
  -- Whether the state has stopped, which is final.
  pub stopped : Bool

-- The bound on the calls of `prepare` where nothing is prepared.
abbrev pub all_unprepared : ℕ
all_unprepared = all_pieces
