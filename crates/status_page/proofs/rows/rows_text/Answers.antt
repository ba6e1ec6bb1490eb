use Rattle.std.proofs.Common.{ℕ, List, [], ◌++◌, ◌∙◌, ap, sym, take, string_bytes, get_or}
use Rattle.std.specs.Borrow.{Bor}
use Rattle.std.specs.List.{flat_map}
use Rattle.std.proofs.lemmas.List.{take_more, flat_map_more}
use Rattle.status_page.specs.declared.lines.Kind.TheVariants.{Gauge}
use Rattle.status_page.specs.declared.lines.Value.TheVariants.{Number}
use Rattle.status_page.specs.declared.rows.Row.{Row}
use Rattle.status_page.specs.declared.rows.Row.TheVariants.{Plain}
use Rattle.status_page.specs.Rows.{row_text}
use Rattle.status_page.proofs.rows.rows_text.Goals as goal

-- no text, at no place
abbrev nothing : Bor (List ℕ)
nothing = record { ref_ptr = (0, 0); now = [] }

-- one more row
pub loop-row-preserved : goal.loop-row-preserved
loop-row-preserved c =
    let rows = c.args.rows.now in
    let index = c.loop-row.row-index in
    let none : Row = Plain nothing Gauge nothing (Number 0) in
    let row = get_or rows index none in
    let earlier = take index rows in
    let lines = c.as_str.ensures.value ∙ c.in_ok-lines.ensures in
    c.in_ok-push_str.ensures.bytes
    ∙ ap (λ l. string_bytes c.loop-row.text ++ l) lines
    ∙ ap (λ l. l ++ row_text row) c.loop-row.invariant
    ∙ flat_map_more row_text [] earlier row
    ∙ ap (λ l. flat_map row_text l) (sym (take_more rows index none c.loop-row-test.true))
