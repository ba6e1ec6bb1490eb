use Rattle.std.proofs.Common.{rules, arith, ◌≡◌, ℕ, ◌+◌, List, ◌∷◌, [], ◌++◌, true, drop, refl, sym, ap, subst, ◌∙◌}
use Rattle.std.specs.Option.{option_map}
use Rattle.std.proofs.lemmas.List.{drop-drop}
use Rattle.std.proofs.lemmas.Result.{err_from_is_err_and}
use Rattle.row_map.specs.Database.{RowView}
use Rattle.row_map.specs.Row.{row_view}
use Rattle.path_records.specs.Key.{key_bytes}
use Rattle.path_records.specs.RowCursor.{CursorView, HasGiven}
use Rattle.path_records.proofs.CursorSteps.{given_more, no_next}
use Rattle.path_records.proofs.row_cursor.RowCursor.next.Goals as goal

pub returns-in_err-row-clause-refused : goal.returns-in_err-row-clause-refused
returns-in_err-row-clause-refused c =
    let p = err_from_is_err_and c.from_residual.result c.from_residual.ensures.1 in
    let s = c.self.inside in
    let cursor : CursorView = record { last = option_map key_bytes s.last; rest = drop s.at s.rest.items } in
    let left : c.bytes_from-left.result.now ≡ drop s.at s.rest.items = c.bytes_from-left.ensures ∙ ap (drop s.at) c.deref.ensures.value in
    rw (p.1, p.2) (λ other fed given is.
    no_next fed given cursor (subst (λ (w : CursorView). HasGiven fed given w) (sym c.self.view_is) is) c.bytes_from-left.result.now left s.last refl c.in_err-row.field-0.0 (c.in_err-row.ensures.refused other))

pub returns-in-Some-clause-row : goal.returns-in-Some-clause-row
returns-in-Some-clause-row c = λ fed given is.
    let s = c.self.inside in
    let cursor : CursorView = record { last = option_map key_bytes s.last; rest = drop s.at s.rest.items } in
    let left : c.bytes_from-left.result.now ≡ drop s.at s.rest.items = c.bytes_from-left.ensures ∙ ap (drop s.at) c.deref.ensures.value in
    let next = rw c.in-Some.is at c.in_ok-row.ensures.row in
    given_more fed given cursor (subst (λ (w : CursorView). HasGiven fed given w) (sym c.self.view_is) is) c.bytes_from-left.result.now left (row_view c.in-Some.row)
    (key_bytes c.of_row.result) (drop (s.at + c.in-Some.size) s.rest.items) next.bytes next.read next.whole next.above c.of_row.ensures
    (sym (drop-drop c.in-Some.size s.at s.rest.items) ∙ ap (drop c.in-Some.size) (sym left) ∙ ap (λ (n : ℕ). drop n c.bytes_from-left.result.now) next.sized)
