use Rattle.std.proofs.Common.{rules, arith, ◌≡◌, ℕ, ◌++◌, List, drop, sym, ap, subst, ◌∙◌}
use Rattle.std.specs.Option.{option_map}
use Rattle.path_records.specs.Key.{key_bytes}
use Rattle.path_records.specs.RowCursor.{CursorView, HasGiven}
use Rattle.path_records.proofs.CursorSteps.{fed_more}
use Rattle.path_records.proofs.row_cursor.RowCursor.push.Goals as goal

pub returns-clause-fed : goal.returns-clause-fed
returns-clause-fed c = λ fed given is.
    let s = c.self.inside in
    let cursor : CursorView = record { last = option_map key_bytes s.last; rest = drop s.at s.rest.items } in
    let more : c.extend_from_slice.new.self.items ≡ drop s.at s.rest.items ++ c.args.piece.now =
    c.in_ok-extend_from_slice.ensures.items ∙ ap (λ (l : List ℕ). l ++ c.args.piece.now) c.drop_front.ensures in
    fed_more fed c.args.piece.now given cursor _ (subst (λ (w : CursorView). HasGiven fed given w) (sym c.self.view_is) is) more
