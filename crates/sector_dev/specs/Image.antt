-- The contents that a device may have after a stop. A stop within a call is covered too: in the
-- middle of a write, the contents are an image of the moment after it, and in the middle of a sync
-- an image of the moment before it.
use Rattle.std.specs.Prelude.{◌≡◌, ℕ, ◌+◌, ◌<◌, ◌≤◌, List, length, drop, slice_index, All}
use Rattle.byte_lists.specs.Content.{AreBytes}
use Rattle.sector_dev.specs.Disk.{ByteRange, Moment, History, moments}

-- No range contains the byte at this offset.
abbrev pub IsClean : List ByteRange → ℕ → Type 0
IsClean dirty i = All (λ (span : ByteRange). span.start ≤ i → span.start + span.len ≤ i) dirty

-- No range contains any of the n bytes at an offset.
abbrev pub IsCleanPart : List ByteRange → ℕ → ℕ → Type 0
IsCleanPart dirty at n = (i : ℕ) → at ≤ i → i < at + n → IsClean dirty i

-- A content that a stop at this moment may leave.
pub record IsImage (moment : Moment) (content : List ℕ) : Type 0 where
  -- The content has the length of what reads return.
  pub size : length content ≡ length moment.reads
  pub bytes : AreBytes content
  -- The content is what reads return wherever nothing is dirty.
  pub clean : (i : ℕ) → IsClean moment.dirty i → slice_index content i ≡ slice_index moment.reads i

-- Each image of a moment has P.
abbrev pub EveryImage : Moment → (List ℕ → Type 0) → Type 0
EveryImage moment P = (content : List ℕ) → IsImage moment content → P content

-- Each image of each moment from number t on has P. The first moment has number 0.
abbrev pub EveryImageSince : ℕ → History → (List ℕ → Type 0) → Type 0
EveryImageSince t history P = All (λ (moment : Moment). EveryImage moment P) (drop t (moments history))

-- The content is related to some image of a moment.
pub record IsFromImage (moment : Moment) (R : List ℕ → List ℕ → Type 0) (content : List ℕ) : Type 0 where
  pub before : List ℕ
  pub image : IsImage moment before
  pub related : R before content
