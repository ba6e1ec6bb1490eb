use Rattle.std.proofs.Common.{List, ◌∷◌, [], ◌++◌, ap, ◌∙◌, refl}
use Rattle.row_map.specs.Database.{RowView}
use Rattle.row_map.specs.Row.{row_view}
use Rattle.ckpt_stream.specs.Planning.{is_beyond}
use Rattle.ckpt_stream.proofs.Plans.{ends_touched}
use Rattle.ckpt_stream.proofs.SettledRows.{one_old}
use Rattle.ckpt_stream.proofs.planner.Planner.take_out.Goals as goal

pub returns : goal.returns
returns c =
    let old = c.args.self.now in
    let row = row_view c.args.row in
    let after = c.push_edit.new.edits.items in
    record {
      keys = refl;
      purged = refl;
      more = λ seen count olds counted registered found. record {
        count = count;
        counted = counted;
        olds = olds ++ row ∷ [];
        registered = one_old old.olds c.apply.new.self olds c.push.new.self.items _ row registered c.new.ensures (c.in_ok-push.ensures.items ∙ ap (λ (l : List RowView). l ++ row ∷ []) c.new-old.ensures.items) c.in_ok-apply.ensures.database;
        planned = ends_touched old.keys.items old.at row (is_beyond old.purged) seen old.edits.items after count olds c.row_size.result c.row_size.ensures found c.in_ok-push_edit.ensures;
      };
    }
