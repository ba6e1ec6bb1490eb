-- A rewrite: the bytes that are made and not taken yet, and those that are still to be made.
use Rattle.std.specs.Prelude.{◌≡◌, ℕ, ◌+◌, ◌-◌, ◌<◌, ◌≤◌, ◌^◌, ◌⊎◌, List, [], ◌∷◌, ◌++◌, length, take, drop, Option}
use Rattle.row_map.specs.Database.{RowView}
use Rattle.ckpt_stream.specs.declared.plan.Edit.{Edit}
use Rattle.ckpt_stream.specs.declared.plan.Edit.TheVariants.{Keep, Pass, Put}
use Rattle.ckpt_stream.specs.declared.rewrite.Rewrite.TheInside.{Inside}
use Rattle.ckpt_stream.specs.Edits.{record_if_any, views_if_any, edited, bytes_in, bytes_out}
use Rattle.path_records.specs.declared.format.TheConstants.{PIECE}
use Rattle.ckpt_stream.specs.declared.rewrite.TheConstants.{BUFFER}

-- A rewrite as contracts see it.
pub record RewriteView : Type 0 where
  -- The bytes that are made and not taken.
  pub out : List ℕ
  -- The edits that are left. The first one may be done in part.
  pub edits : List Edit
  -- The entries of rows that these edits put.
  pub rows : List (Option RowView)
  -- The offset up to which the edits have read the records before.
  pub position : ℕ

-- A rewrite's fields as contracts see them.
abbrev pub rewrite_view : Inside → RewriteView
rewrite_view s = record {
  out = take s.used s.buffer.items;
  edits = Keep s.kept ∷ drop s.at s.edits.items;
  rows = views_if_any (drop s.next s.rows.items);
  position = s.position;
}

-- What holds for the fields of a rewrite.
pub record IsRewrite (s : Inside) : Type 0 where
  -- The buffer has room for a piece and the record of a row.
  pub room : length s.buffer.items ≡ BUFFER
  pub used : s.used ≤ BUFFER
  pub at : s.at ≤ length s.edits.items
  pub next : s.next ≤ length s.rows.items
  -- The edits end within 2^33 bytes.
  pub end : s.position + bytes_in (Keep s.kept ∷ drop s.at s.edits.items) < 2 ^ 33

-- All bytes that are not taken, both those that are made and those that are still to be made, where
-- `bytes` are the records before.
abbrev pub untaken : RewriteView → List ℕ → List ℕ
untaken view bytes = view.out ++ edited view.edits view.rows (drop view.position bytes)

-- The number of bytes that are not taken.
abbrev pub untaken_len : RewriteView → ℕ
untaken_len view = length view.out + bytes_out view.edits view.rows

-- The offset at which the edits end in the records before.
abbrev pub edits_end : RewriteView → ℕ
edits_end view = view.position + bytes_in view.edits

-- The number of bytes that the first edit keeps.
abbrev pub kept_first : List Edit → ℕ
kept_first [] = 0
kept_first (Keep n ∷ edits) = n
kept_first (Pass n ∷ edits) = 0
kept_first (Put ∷ edits) = 0

-- The number of bytes that are still to be kept of the edit that was begun.
abbrev pub left_to_keep : RewriteView → ℕ
left_to_keep view = kept_first view.edits

-- An edit before the others.
abbrev pub with_edit : Edit → RewriteView → RewriteView
with_edit edit view = record view { edits = edit ∷ view.edits }

-- The rewrite after the first of these entries was put, where there is one.
abbrev pub with_next_row : List (Option RowView) → RewriteView → RewriteView
with_next_row [] view = view
with_next_row (row ∷ rows) view = record view { out = view.out ++ record_if_any row; rows = rows }

-- What a call of `rewrite` with a window keeps.
pub record Rewrites (from : ℕ) (window : List ℕ) (old new : RewriteView) : Type 0 where
  -- The bytes that are not taken, for any records before that have the window at its offset.
  pub same : (bytes : List ℕ) → take (length window) (drop from bytes) ≡ window → untaken new bytes ≡ untaken old bytes
  pub len : untaken_len new ≡ untaken_len old
  -- The edits end at the same offset.
  pub end : edits_end new ≡ edits_end old
  -- The position never goes back.
  pub forward : old.position ≤ new.position

-- The next byte that is wanted is not in the window.
abbrev pub IsOutside : ℕ → ℕ → ℕ → Type 0
IsOutside from len position = (position < from) ⊎ (from + len ≤ position)

-- Why rewriting stops: a piece is made, or nothing is left to be made, or a byte is wanted that is
-- not in the window.
abbrev pub WhyStopped : ℕ → ℕ → RewriteView → Type 0
WhyStopped from len view = (PIECE ≤ length view.out) ⊎ ((view.edits ≡ Keep 0 ∷ []) ⊎ ((0 < left_to_keep view) × IsOutside from len view.position))

-- A number that gets smaller by each step after which another may follow.
abbrev pub steps_left : RewriteView → ℕ
steps_left view = length view.edits + (BUFFER - length view.out)
