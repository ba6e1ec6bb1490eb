-- One more row.
use Rattle.std.proofs.Common.{List, sym, subst}
use Rattle.row_map.specs.Database.{RowView}
use Rattle.ckpt_pair.specs.Stream.{HasStreamed}
use Rattle.ckpt_stream.specs.Planner.{HasSeen}
use Rattle.ckpt_stream.proofs.old_rows.see_rows.Goals as goal

pub rows-preserved : goal.rows-preserved
rows-preserved c =
    let given = rw c.in-Some.is at c.in_ok-row.ensures.row in
    record {
      seen = λ commands has. subst (λ (rows : List RowView). HasSeen commands rows c.see.new.self) (sym c.and_row.ensures)
          (c.in_ok-see-in-Some.ensures commands c.rows.note.value (c.rows.invariant.seen commands has));
      streamed = λ size count pushed has. subst (λ (rows : List RowView). HasStreamed size count pushed rows c.next.new.self) (sym c.and_row.ensures)
          (given size count pushed c.rows.note.value (c.rows.invariant.streamed size count pushed has));
    }
