use Rattle.std.proofs.Common.{rules, ◌≡◌, sym, ap, ◌∙◌, None}
use Rattle.std.specs.List.{filter}
use Rattle.row_map.specs.Ranges.{is_of_type}
use Rattle.path_db.specs.Wanted.{is_past}
use Rattle.path_db.proofs.After.{kept_all}
use Rattle.path_db.proofs.ways.rows_of_type.Goals as goal

pub returns-in-None : goal.returns-in-None
returns-in-None c =
    let kind = c.args.wanted.now.kind in
    let rows = c.args.rows.now in
    let all : c.of_type.result ≡ filter (is_of_type kind) (filter (is_past kind None) rows) =
    c.of_type.ensures ∙ ap (filter (is_of_type kind)) (sym (kept_all rows)) in
    search (rules, all)
