-- Where a value or its digits are refused, so is the line.
use Rattle.std.proofs.Common.{◌≡◌, ◌≢◌, ℕ, List, codes, Result, Ok, Err, Some, IfErr, sym, subst, ◌∙◌}
use Rattle.std.proofs.lemmas.Option.{same_Some}
use Rattle.serde_json.specs.Data.{Data}
use Rattle.serde_json.specs.Read.{read}
use Rattle.seg_core.specs.SegmentView.{SegmentView}
use Rattle.row_map.specs.Database.{RowView}
use Rattle.row_lines.specs.Reading.{text_under, AreDigitsOf, IsRowOf, IsRowLine}
use Rattle.row_lines.specs.declared.reading.LineError.{LineError}
use Rattle.row_lines.specs.declared.reading.LineError.TheVariants as error

-- a line has no row where its value has none
pub value_refused : {R : Type 0} (r : Result R LineError) (line : List ℕ) (json : Data) → read line ≡ Some json
    → IfErr r (λ e. e ≢ error.NoMemory → (row : RowView) → IsRowOf json row → ⊥) → IfErr r (λ e. e ≢ error.NoMemory → (row : RowView) → IsRowLine line row → ⊥)
value_refused (Ok x) line json is refused = tt
value_refused (Err e) line json is refused = λ different row has.
    refused different row (subst (λ (j : Data). IsRowOf j row) (same_Some has.json json (sym has.value ∙ is)) has.row_of)

-- a value has no row where its digits have no segment
pub digits_refused : (json : Data) (digits : List ℕ) (e : LineError) → Some digits ≡ text_under (codes "segment") json
    → (e ≢ error.NoMemory → (s : SegmentView) → AreDigitsOf digits s → ⊥) → e ≢ error.NoMemory → (row : RowView) → IsRowOf json row → ⊥
digits_refused json digits e is refused different row has =
    refused different row.1 (subst (λ (d : List ℕ). AreDigitsOf d row.1) (sym (same_Some digits has.digits (is ∙ has.member))) has.segment)
