use Rattle.std.proofs.Common.{Some, ap, ◌∙◌}
use Rattle.row_map.specs.Database.{row_under}
use Rattle.row_map.proofs.Indices.{key_is}
use Rattle.row_map.proofs.row_puts.copy_of.Goals as goal

pub returns-in_ok-try_clone-in-Some : goal.returns-in_ok-try_clone-in-Some
returns-in_ok-try_clone-in-Some c = ap Some c.in_ok-try_clone-in-Some.ensures.view ∙ c.in-Some.ensures.same ∙ ap (λ k. row_under k c.args.rows.now) (key_is c.args.row.now c.id.result.now c.id.ensures)

pub returns-in-None : goal.returns-in-None
returns-in-None c = c.in-None.ensures.same ∙ ap (λ k. row_under k c.args.rows.now) (key_is c.args.row.now c.id.result.now c.id.ensures)
