use Rattle.std.proofs.Common.{◌++◌, ◌∙◌, ap, sym, take, string_bytes, get_or}
use Rattle.std.specs.List.{flat_map}
use Rattle.std.proofs.lemmas.List.{take_more, flat_map_more}
use Rattle.status_page.specs.declared.counts.CodeCount.{CodeCount}
use Rattle.status_page.specs.declared.lines.Kind.TheVariants.{Counter}
use Rattle.status_page.specs.declared.names.TheConstants.{REFUSALS, REFUSALS_HELP}
use Rattle.status_page.specs.Lines.{heading}
use Rattle.status_page.specs.Page.{refusal_line}
use Rattle.status_page.proofs.text.refusals_text.Goals as goal

-- one more refusal
pub loop-refusal-preserved : goal.loop-refusal-preserved
loop-refusal-preserved c =
    let counted = c.args.refusals.now in
    let index = c.loop-refusal.refusal-index in
    let none : CodeCount = record { code = 0; count = 0 } in
    let refusal = get_or counted index none in
    let name = heading REFUSALS.now Counter REFUSALS_HELP.now in
    let earlier = take index counted in
    let line = c.as_str.ensures.value ∙ c.in_ok-line.ensures in
    c.in_ok-push_str.ensures.bytes
    ∙ ap (λ l. string_bytes c.loop-refusal.text ++ l) line
    ∙ ap (λ l. l ++ refusal_line refusal) c.loop-refusal.invariant
    ∙ flat_map_more refusal_line name earlier refusal
    ∙ ap (λ l. name ++ flat_map refusal_line l) (sym (take_more counted index none c.loop-refusal-test.true))
