use Rattle.std.proofs.Common.{rules, arith, ◌≡◌, ◌<◌, ℕ, List, length, IsOk, subst}
use Rattle.std.proofs.lemmas.List.{length-map}
use Rattle.row_map.specs.Row.{row_view, row_views}
use Rattle.path_records.specs.RowRecord.{rows_decoding}
use Rattle.path_records.proofs.RowPieces.{all_read, cut_off, wanted_at}
use Rattle.path_records.proofs.database_reader.DatabaseReader.finish.Goals as goal

pub returns-then-not-is_empty-clause-decoding : goal.returns-then-not-is_empty-clause-decoding
returns-then-not-is_empty-clause-decoding c =
    let some : 0 < length c.self.inside.rest.items = search rules in
    let cut = cut_off (row_views c.self.inside.rows.items) c.self.inside.rest.items c.self.invariant.database some c.self.invariant.rest in
    search (rules, cut)

pub returns-clause-decoding : goal.returns-clause-decoding
returns-clause-decoding c =
    let none : length c.self.inside.rest.items ≡ 0 = search rules in
    let all = all_read (row_views c.self.inside.rows.items) c.self.inside.rest.items c.self.invariant.database none in
    search (rules, all)

-- there are rows, so there were bytes
pub returns-in_err-of_rows-clause-memory : goal.returns-in_err-of_rows-clause-memory
returns-in_err-of_rows-clause-memory c =
    let rows = row_views c.self.inside.rows.items in
    let none : length c.self.inside.rest.items ≡ 0 = search rules in
    let all = all_read rows c.self.inside.rest.items c.self.invariant.database none in
    let some : 0 < length rows = omega (arith, c.in_err-of_rows.ensures.memory, length-map c.self.inside.rows.items row_view) in
    let wanted = wanted_at rows c.self.inside.rest.items all some in
    let here : IsOk (rows_decoding c.args.self) × (0 < length c.args.self) = subst (λ (bytes : List ℕ). IsOk (rows_decoding bytes) × (0 < length bytes)) c.self.view_is wanted in
    search (rules, here)
