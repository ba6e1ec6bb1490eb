use Rattle.std.proofs.Common.{length, ap, arith}
use Rattle.std.proofs.lemmas.List.{length-map}
use Rattle.seg_core.specs.EntryView.{entry_view}
use Rattle.row_map.proofs.IndexKeys.{last_is}
use Rattle.row_map.proofs.end_keys.isd_as_at.Goals as goal

pub returns-in-Last : goal.returns-in-Last
returns-in-Last c =
    let entries = c.entries-entries.result.now in
    let some = ap length c.entries-entries.ensures.same in
    rw (c.in-Last.is, ← c.entries-entries.ensures.same, c.to_u64-in-Last.ensures)
    (last_is entries c.index-entries-entries.result (omega (arith, c.entries-entries.ensures.whole.counted, some, length-map entries entry_view)))
