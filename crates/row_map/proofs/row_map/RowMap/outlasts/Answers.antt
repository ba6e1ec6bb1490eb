use Rattle.std.proofs.Common.{rules, ◌<◌, ◌≤◌}
use Rattle.seg_check.specs.Expiry.{expiry_of}
use Rattle.row_map.specs.Database.{RowView}
use Rattle.row_map.specs.RowMap.{views_of}
use Rattle.row_map.specs.Buckets.{IsBoundedBy}
use Rattle.row_map.proofs.Bucketed.{all_implied}
use Rattle.row_map.proofs.Purged.{none_dropped}
use Rattle.row_map.proofs.row_map.RowMap.outlasts.Goals as goal

pub returns : goal.returns
returns c = λ e.
    let bounds = c.self.inside.bounds in
    let rows = views_of c.self.inside.rows.entries in
    let before : c.args.moment < bounds.least = search (rules, e) in
    rw (← c.self.view_is) (none_dropped c.args.moment bounds.least rows before (all_implied (IsBoundedBy bounds) (λ (row : RowView). bounds.least ≤ expiry_of row.1) rows (λ row bounded. bounded.least) c.self.invariant.bounded))
