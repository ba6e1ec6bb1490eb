use Rattle.std.proofs.Common.{◌≡◌, ◌++◌, take, string_bytes}
use Rattle.std.specs.List.{flat_map}
use Rattle.status_page.specs.declared.lines.Kind.TheVariants.{Counter}
use Rattle.status_page.specs.declared.names.TheConstants.{REFUSALS, REFUSALS_HELP}
use Rattle.status_page.specs.Lines.{heading}
use Rattle.status_page.specs.Page.{refusal_line}
use Rattle.status_page.proofs.text.refusals_text.Given as goal

-- the heading, and those of the refusals so far
abbrev pub invariant-loop-refusal : goal.invariant-loop-refusal
invariant-loop-refusal l = string_bytes l.text ≡ heading REFUSALS.now Counter REFUSALS_HELP.now ++ flat_map refusal_line (take l.refusal-index l.refusals)
