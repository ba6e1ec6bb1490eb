-- The status of a store whose commands are folded.
use Rattle.std.specs.Prelude.{◌*◌, ◌-◌, length}
use Rattle.byte_lists.specs.declared.format.TheConstants.{SECTOR}
use Rattle.ckpt_pair.specs.Heads.{head_view}
use Rattle.store_layout.specs.declared.format.TheConstants.{BEFORE_ROWS}
use Rattle.store_layout.specs.Geometry.{geometry_view}
use Rattle.store_open.specs.declared.folded.Folded.{Folded}
use Rattle.store_open.specs.Store.{counted_len}
use Rattle.cli_store.specs.Status.{Status}

-- The numbers of such a store.
abbrev pub folded_status : Folded → Status
folded_status folded = record {
  version = (head_view folded.head).version;
  epoch = (head_view folded.head).epoch;
  place = folded.place;
  rows = length folded.db;
  bytes = counted_len folded.db;
  most_bytes = SECTOR * (geometry_view folded.geometry).checkpoint - BEFORE_ROWS;
  used = folded.gate;
  journal = (geometry_view folded.geometry).journal;
  sealed = folded.sealed;
}
