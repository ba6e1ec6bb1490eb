use Rattle.std.proofs.Common.{◌+◌, refl, arith}
use Rattle.row_map.specs.Row.{row_view}
use Rattle.ckpt_stream.specs.Planning.{is_beyond}
use Rattle.ckpt_stream.proofs.Plans.{ends_kept}
use Rattle.ckpt_stream.proofs.planner.Planner.keep.Goals as goal

pub returns : goal.returns
returns c =
    let old = c.args.self.now in
    let row = row_view c.args.row.now in
    let after = c.push_edit.new.edits.items in
    record {
      keys = refl;
      purged = refl;
      more = λ seen count olds counted registered found. record {
        count = count + 1;
        counted = omega (arith, counted, c.saturating_add-self.ensures);
        olds = olds;
        registered = registered;
        planned = ends_kept old.keys.items old.at row (is_beyond old.purged) seen old.edits.items after count olds c.row_size.result c.row_size.ensures c.requires found c.in_ok-push_edit.ensures;
      };
    }
