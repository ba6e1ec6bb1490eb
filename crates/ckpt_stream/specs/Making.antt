-- Why making stops, and how long it goes on.
use Rattle.std.specs.Prelude.{◌≡◌, ℕ, suc, ◌+◌, ◌<◌, ◌≤◌, ◌⊎◌, [], ◌∷◌, length, if◌then◌else◌, nat_le, ◌==◌}
use Rattle.ckpt_stream.specs.declared.plan.Edit.TheVariants.{Keep}
use Rattle.ckpt_stream.specs.Edits.{bytes_in}
use Rattle.ckpt_stream.specs.Rewriting.{RewriteView, left_to_keep}
use Rattle.path_records.specs.declared.format.TheConstants.{PIECE}
use Rattle.store_layout.specs.declared.format.TheConstants.{BEFORE_ROWS}

-- Why making stops: a piece is made, or nothing is left to be made, or a byte is wanted that is not
-- between these two offsets in the area.
abbrev pub WhyRewritten : ℕ → ℕ → RewriteView → Type 0
WhyRewritten from to rewrite =
    (PIECE ≤ length rewrite.out) ⊎ ((rewrite.edits ≡ Keep 0 ∷ []) ⊎ ((0 < left_to_keep rewrite) × ((rewrite.position + BEFORE_ROWS < from) ⊎ (to ≤ rewrite.position + BEFORE_ROWS))))

-- The number of bytes of the old rows that may still be read for this piece, and one more while any
-- are wanted.
abbrev pub reads_left : RewriteView → ℕ
reads_left rewrite = if nat_le PIECE (length rewrite.out) then 0 else if left_to_keep rewrite == 0 then 0 else suc (bytes_in rewrite.edits)
