use Rattle.std.proofs.Common.{◌≡◌, Bool, ap, ◌∙◌}
use Rattle.std.specs.Prelude.{map}
use Rattle.row_map.specs.Database.{RowView}
use Rattle.path_records.specs.RowRecord.{rows_encoding}
use Rattle.ckpt_stream.specs.Laws.{left_of}
use Rattle.ckpt_stream.specs.Merging.{merged, outlives}
use Rattle.path_records.specs.Key.{key_bytes}
use Rattle.ckpt_stream.specs.Planning.{is_beyond}
use Rattle.ckpt_stream.proofs.laws.plans_make_folds.Goals as goal

pub returns : goal.returns
returns c = λ rows commands keys purged edits kept olds is whole rise covers same made.
    let tests : is_beyond purged ≡ outlives commands = λ i row. same row i in
    made.makes (left_of rows commands)
    ∙ ap (λ (p : RowView → Bool). rows_encoding (merged (left_of rows commands) p (map key_bytes keys) rows)) tests
    ∙ ap rows_encoding (c.merges_are_folds.ensures rows commands (map key_bytes keys) is whole rise covers)
