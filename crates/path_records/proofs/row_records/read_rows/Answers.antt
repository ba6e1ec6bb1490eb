use Rattle.std.proofs.Common.{rules, ◌<◌, length, arith}
use Rattle.std.proofs.lemmas.List.{length-map}
use Rattle.row_map.specs.Row.{row_view, row_views}
use Rattle.path_records.proofs.Outlined.{some_outlined}
use Rattle.path_records.proofs.RowsBack.{rows_read}
use Rattle.path_records.proofs.row_records.read_rows.Goals as goal

pub of_rows-requires : goal.of_rows-requires
of_rows-requires c = record {
  rising = (rows_read c.args.bytes.now (row_views c.in_ok-rows.rows.items) c.in_ok-rows.ensures.decoding).0;
  whole = c.in_ok-rows.ensures.whole;
}

pub returns-in_err-of_rows-clause-memory : goal.returns-in_err-of_rows-clause-memory
returns-in_err-of_rows-clause-memory c =
    let rows = c.in_ok-rows.rows.items in
    let some : 0 < length (row_views rows) = omega (arith, c.in_err-of_rows.ensures.memory, length-map rows row_view) in
    let outlined = some_outlined c.args.bytes.now (row_views rows) c.in_ok-rows.ensures.decoding some in
    search (rules, outlined)
