-- The lines of a page.
use Rattle.std.specs.Prelude.{ℕ, ◌/◌, ◌%◌, true, false, List, [], ◌∷◌, ◌++◌, codes}
use Rattle.std.specs.Fmt.{decimal}
use Rattle.status_page.specs.declared.lines.Kind.{Kind}
use Rattle.status_page.specs.declared.lines.Kind.TheVariants.{Gauge, Counter, Histogram}
use Rattle.status_page.specs.declared.lines.Value.{Value}
use Rattle.status_page.specs.declared.lines.Value.TheVariants.{Number, Time, TimeIf, Truth}

-- The word for the type of a metric.
abbrev pub kind_text : Kind → List ℕ
kind_text Gauge = codes "gauge"
kind_text Counter = codes "counter"
kind_text Histogram = codes "histogram"

-- The line with what a metric says.
unfoldable pub help_line : List ℕ → List ℕ → List ℕ
help_line name help = codes "# HELP " ++ (name ++ (codes " " ++ (help ++ 0x0a ∷ [])))

-- The line with the type of a metric.
unfoldable pub type_line : List ℕ → List ℕ → List ℕ
type_line name kind = codes "# TYPE " ++ (name ++ (codes " " ++ (kind ++ 0x0a ∷ [])))

-- The two lines before those of a metric's numbers.
unfoldable pub heading : List ℕ → Kind → List ℕ → List ℕ
heading name kind help = help_line name help ++ type_line name (kind_text kind)

-- The six digits of a number below a million.
unfoldable pub six_digits : ℕ → List ℕ
six_digits n =
    decimal (n / 100000)
    ++ (decimal (n / 10000 % 10)
    ++ (decimal (n / 1000 % 10) ++ (decimal (n / 100 % 10) ++ (decimal (n / 10 % 10) ++ decimal (n % 10)))))

-- A number of microseconds as seconds, with six digits after the point.
unfoldable pub seconds : ℕ → List ℕ
seconds microseconds = decimal (microseconds / 1000000) ++ (codes "." ++ six_digits (microseconds % 1000000))

-- The digits of a line's number.
abbrev pub value_text : Value → List ℕ
value_text (Number number) = decimal number
value_text (Time microseconds) = seconds microseconds
value_text (TimeIf true microseconds) = seconds microseconds
value_text (TimeIf false microseconds) = seconds 0
value_text (Truth true) = codes "1"
value_text (Truth false) = codes "0"

-- The line of a metric with a number.
unfoldable pub sample : List ℕ → Value → List ℕ
sample name number = name ++ (codes " " ++ (value_text number ++ 0x0a ∷ []))

-- The line of a metric with a number under a label.
unfoldable pub labelled : List ℕ → List ℕ → Value → List ℕ
labelled name label number = name ++ (codes "{" ++ (label ++ (codes "} " ++ (value_text number ++ 0x0a ∷ []))))
