-- The rows of a page, and their text.
use Rattle.std.specs.Prelude.{ℕ, List, ◌++◌}
use Rattle.status_page.specs.declared.lines.Kind.{Kind}
use Rattle.status_page.specs.declared.lines.Value.{Value}
use Rattle.status_page.specs.declared.rows.Row.{Row}
use Rattle.status_page.specs.declared.rows.Row.TheVariants.{Plain, Family, Labelled}
use Rattle.status_page.specs.Lines.{heading, sample, labelled}

-- The lines of a metric with one number: its name, its type, what it says, and the number.
unfoldable pub plain : List ℕ → Kind → List ℕ → Value → List ℕ
plain name kind help number = heading name kind help ++ sample name number

-- The lines of a row.
abbrev pub row_text : Row → List ℕ
row_text (Plain name kind help number) = plain name.now kind help.now number
row_text (Family name kind help) = heading name.now kind help.now
row_text (Labelled name label number) = labelled name.now label.now number
