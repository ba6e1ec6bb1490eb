-- The line of a row in a form.
use Rattle.std.specs.Prelude.{ℕ, List}
use Rattle.row_map.specs.Database.{RowView}
use Rattle.row_lines.specs.Text.{row_line, dated_line}
use Rattle.row_lines.specs.Json.{json_line, json_line_of_more}
use Rattle.row_lines.specs.declared.form.RowForm.{RowForm}
use Rattle.row_lines.specs.declared.form.RowForm.TheVariants.{Text, Dated, Json, JsonOfMore}

abbrev pub line_as : RowForm → RowView → List ℕ
line_as Text row = row_line row
line_as Dated row = dated_line row
line_as Json row = json_line row
line_as JsonOfMore row = json_line_of_more row

-- The form where there may be more rows than are printed: JSON alone says so.
abbrev pub of_more : RowForm → RowForm
of_more Text = Text
of_more Dated = Dated
of_more Json = JsonOfMore
of_more JsonOfMore = JsonOfMore
