use Rattle.std.proofs.Common.{rules, ◌≡◌, Some, None, refl}
use Rattle.std.specs.Option.{option_map}
use Rattle.row_map.specs.Row.{row_view}
use Rattle.row_map.specs.EndKeys.{index_number}
use Rattle.row_map.specs.IndexKey.{is_same}
use Rattle.row_map.proofs.IndexKeys.{seen_alone, seen_other}
use Rattle.row_map.proofs.end_keys.touch.Goals as goal
use Rattle.row_map.proofs.end_keys.touch.Goals.{in-Some+in_ok-index_row_of+in_ok-push_other, in_default}

pub returns-clause-seen : goal.returns-clause-seen
returns-clause-seen c =
    let end = index_number c.args.by in
    let p = c.in_ok-index_row.index_row in
    let new = row_view c.args.new.now in
    let touched = c.args.touched.now.items in
    elim c.match-stood.branch [
      | in-Some+in_ok-index_row_of+in_ok-push_other w ↦
          let is : option_map row_view c.args.stood.now ≡ Some (row_view w.in-Some.row) = search (rules, w.in-Some) in
          rw (c.in_ok-push.ensures.items, w.touched-is, w.in_ok-push_other.ensures.other, is)
          (seen_other end p new c.in_ok-index_row.ensures.0 w.in_ok-index_row_of.field-0 (row_view w.in-Some.row) w.in_ok-index_row_of.ensures.0 touched (is_same w.in_ok-index_row_of.field-0 p) refl)
      | in_default w ↦
          let is : option_map row_view c.args.stood.now ≡ None = search (rules, w.in_default) in
          rw (c.in_ok-push.ensures.items, w.touched-is, is) (seen_alone end p new c.in_ok-index_row.ensures.0 touched)
    ]
