-- The text in which a store is shown: a line for each row, and one with the place.
use Rattle.std.specs.Prelude.{ℕ, List, [], ◌∷◌, ◌++◌, codes}
use Rattle.std.specs.List.{flat_map}
use Rattle.std.specs.Fmt.{decimal}
use Rattle.row_map.specs.Database.{RowView}
use Rattle.row_lines.specs.declared.form.RowForm.{RowForm}
use Rattle.row_lines.specs.declared.form.RowForm.TheVariants.{Text, Dated, Json, JsonOfMore}
use Rattle.row_lines.specs.Form.{line_as}

-- The lines of all rows, in the order of their keys.
abbrev pub rows_text : RowForm → List RowView → List ℕ
rows_text form rows = flat_map (line_as form) rows

-- The line of the place, after its name.
abbrev pub place_line : ℕ → List ℕ
place_line place = codes "place " ++ (decimal place ++ 0x0a ∷ [])

-- What follows the rows: as text the line of the place, and as JSON nothing.
abbrev pub store_end : RowForm → ℕ → List ℕ
store_end Text place = place_line place
store_end Dated place = place_line place
store_end Json place = []
store_end JsonOfMore place = []

-- The text of a store.
abbrev pub store_text : RowForm → List RowView → ℕ → List ℕ
store_text form rows place = rows_text form rows ++ store_end form place

-- The line that says how many sectors a new store takes.
abbrev pub formatted_line : ℕ → List ℕ
formatted_line sectors = codes "formatted " ++ (decimal sectors ++ (codes " sectors" ++ 0x0a ∷ []))

-- The line that says how many rows were copied, and the place of the copy.
abbrev pub copied_line : ℕ → ℕ → List ℕ
copied_line rows place = codes "copied " ++ (decimal rows ++ (codes " rows at place " ++ (decimal place ++ 0x0a ∷ [])))

-- The line of the version that stores are written in.
abbrev pub version_line : List ℕ
version_line = codes "version 2" ++ 0x0a ∷ []
