use Rattle.std.proofs.Common.{◌∙◌}
use Rattle.cli_store.proofs.Drawn.{no_faults_by_writing}
use Rattle.cli_store.proofs.layout.show_layout.Goals as goal

pub returns-in-Ok-clause-faults : goal.returns-in-Ok-clause-faults
returns-in-Ok-clause-faults g c =
    (c.in-Ok.ensures.faults ∙ c.in-Ok-Some.ensures.faults) ∙ no_faults_by_writing c.draw_store.result _ c.draw_store.ensures.of_writing
