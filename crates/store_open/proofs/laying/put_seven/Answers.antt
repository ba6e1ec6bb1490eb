-- Each of the seven records is after those before it.
use Rattle.std.proofs.Common.{◌∙◌}
use Rattle.std.proofs.lemmas.List.Concat.{flat_map-cons}
use Rattle.row_map.specs.Row.{row_view}
use Rattle.path_records.specs.RowRecord.{row_record}
use Rattle.store_open.proofs.RowWrites.{put_next}
use Rattle.store_open.proofs.laying.put_seven.Goals as goal

pub returns-clause-put : goal.returns-clause-put
returns-clause-put c =
    put_next _ _ _ _ _ c.put_seen.ensures.put c.next_seen-seventh.ensures.next
    ∙ put_next _ _ _ _ _ c.put_seen-used-5.ensures.put c.next_seen-sixth.ensures.next
    ∙ put_next _ _ _ _ _ c.put_seen-used-4.ensures.put c.next_seen-fifth.ensures.next
    ∙ put_next _ _ _ _ _ c.put_seen-used-3.ensures.put c.next_seen-fourth.ensures.next
    ∙ put_next _ _ _ _ _ c.put_seen-used-2.ensures.put c.next_seen-third.ensures.next
    ∙ put_next _ _ _ _ _ c.put_seen-used.ensures.put c.next_seen-second.ensures.next
    ∙ put_next _ _ _ _ _ c.put_row-used.ensures.put (flat_map-cons row_record (row_view c.args.first.now) c.args.rows.now)
