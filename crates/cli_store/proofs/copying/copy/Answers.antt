-- The store is read, and then made.
use Rattle.std.proofs.Common.{◌∙◌, ap, rules}
use Rattle.sector_dev.proofs.Stretches.{honest_before}
use Rattle.store_layout.specs.Geometry.{geometry_view}
use Rattle.cli_store.specs.Text.{copied_line}
use Rattle.cli_store.proofs.Copied.{copied_here, being_copied, refused_so, copied_whole, copied_in_part, copy_faults, written_faults}
use Rattle.cli_store.proofs.copying.copy.Goals as goal

pub returns-in_err-folded-clause-any_moment : goal.returns-in_err-folded-clause-any_moment
returns-in_err-folded-clause-any_moment g c = copied_here (geometry_view c.args.geometry) _ _

pub returns-in_default-clause-any_moment : goal.returns-in_default-clause-any_moment
returns-in_default-clause-any_moment g c = copied_here (geometry_view c.args.geometry) _ _

pub returns-in_err-format_with-clause-any_moment : goal.returns-in_err-format_with-clause-any_moment
returns-in_err-format_with-clause-any_moment g c =
    being_copied (geometry_view c.args.geometry) _ c.in_ok-folded.folded c.in_ok-folded.ensures.seen _ _ c.format_with.ensures.any_moment

pub returns-clause-any_moment : goal.returns-clause-any_moment
returns-clause-any_moment g c =
    being_copied (geometry_view c.args.geometry) _ c.in_ok-folded.folded c.in_ok-folded.ensures.seen _ _ c.format_with.ensures.any_moment

pub returns-in_err-format_with-clause-refused : goal.returns-in_err-format_with-clause-refused
returns-in_err-format_with-clause-refused g c =
    refused_so (geometry_view c.args.geometry) _ c.in_ok-folded.folded c.in_ok-folded.ensures.seen c.from_residual-in_err-format_with.result c.in_err-format_with.field-0.0 _ _ _ _
    c.from_residual-in_err-format_with.ensures.1 c.in_err-format_with.ensures.answer (search rules)

pub returns-clause-copied : goal.returns-clause-copied
returns-clause-copied g c =
    copied_whole (geometry_view c.args.geometry) _ c.in_ok-folded.folded c.in_ok-folded.ensures.seen _ _ c.in_ok-format_with.ensures.answer (honest_before _ _ c.format_with.ensures.keeps) _ _ _
    (c.as_bytes.ensures.value ∙ c.in-Ok.ensures ∙ ap (λ n. copied_line n c.in_ok-folded.folded.place) c.len.ensures.count) c.write_all.result c.write_all.ensures.ok

pub returns-clause-refused : goal.returns-clause-refused
returns-clause-refused g c =
    copied_in_part (geometry_view c.args.geometry) _ c.in_ok-folded.folded c.in_ok-folded.ensures.seen _ _ c.in_ok-format_with.ensures.answer (honest_before _ _ c.format_with.ensures.keeps) _ _ _
    (c.as_bytes.ensures.value ∙ c.in-Ok.ensures ∙ ap (λ n. copied_line n c.in_ok-folded.folded.place) c.len.ensures.count) c.write_all.result c.write_all.ensures.output c.write_all.ensures.err

pub returns-in_err-format_with-clause-faults : goal.returns-in_err-format_with-clause-faults
returns-in_err-format_with-clause-faults g c =
    copy_faults c.from_residual-in_err-format_with.result c.in_err-format_with.field-0.0 _ _ c.from_residual-in_err-format_with.ensures.1 c.in_ok-folded.ensures.faults

pub returns-clause-faults : goal.returns-clause-faults
returns-clause-faults g c = written_faults c.write_all.result _ _ c.write_all.ensures.output c.in_ok-folded.ensures.faults
