-- Rows that commands leave, for commands that come one after the other: for `planner`.
use Rattle.std.proofs.Common.{◌≡◌, Bool, true, false, List, [], ◌∷◌, ◌++◌, if◌then◌else◌, refl, sym, ap, ◌∙◌}
use Rattle.path_db.specs.declared.command.Command.{Command}
use Rattle.path_db.specs.declared.command.Command.TheVariants.{Register, Purge, Remove}
use Rattle.row_map.specs.Database.{RowView}
use Rattle.ckpt_stream.specs.Merging.{outlives, outlives_one}

-- a command more
one_more : (command : Command) (commands : List Command) (row : RowView) → outlives (command ∷ commands) row ≡ (if outlives_one command row then outlives commands row else false)
one_more (Register new) commands row = refl
one_more (Purge moment) commands row = refl
one_more (Remove kind id) commands row = refl

nested : (a b c : Bool) → (if (if a then b else false) then c else false) ≡ (if a then (if b then c else false) else false)
nested true b c = refl
nested false b c = refl

-- commands that come one after the other
pub outlives_both : (commands more : List Command) (row : RowView) → outlives (commands ++ more) row ≡ (if outlives commands row then outlives more row else false)
outlives_both [] more row = refl
outlives_both (command ∷ commands) more row =
    one_more command (commands ++ more) row
    ∙ ap (λ (b : Bool). if outlives_one command row then b else false) (outlives_both commands more row)
    ∙ sym (nested (outlives_one command row) (outlives commands row) (outlives more row))
    ∙ ap (λ (b : Bool). if b then outlives more row else false) (sym (one_more command commands row))
