use Rattle.std.proofs.Common.{◌≡◌, ◌-◌, ◌<◌}
use Rattle.row_map.specs.Database.{AreWhole}
use Rattle.path_records.specs.RowRecord.{HasOutline}
use Rattle.path_records.specs.CommandRecord.{items_decoding}
use Rattle.path_records.proofs.Records.{items_behind}
use Rattle.path_records.proofs.command_records.read_items.Given as goal

-- The bytes that are left, after the rows read before, give the result of all bytes.
abbrev pub invariant-loop : goal.invariant-loop
invariant-loop l = record {
  decoding : items_decoding l.count l.bytes ≡ items_behind l.rows.items (l.count - l.counter) l.rest;
  whole : AreWhole l.rows.items;
  first : l.counter ≡ 0 → l.rest ≡ l.bytes;
  outline : 0 < l.counter → HasOutline l.bytes;
}
