-- Laws of the bytes that count for an opening. Each statement is the contract of a function.
use Rattle.std.specs.Prelude.{◌≡◌, ℕ, ◌+◌, ◌≤◌, List, [], length, None}
use Rattle.std.specs.List.{AllByRecursion}
use Rattle.byte_lists.specs.Content.{overwrite}
use Rattle.byte_lists.specs.Sectors.{IsOpenGate}
use Rattle.store_layout.specs.Layout.{other, area_of, gate_of}
use Rattle.store_layout.specs.StoreFormat.{StoreFormat}
use Rattle.store_layout.specs.Opening.{Opening, HasOlderHead, IsOpening}
use Rattle.store_layout.specs.WhatCounts.{chosen_spans, spans_in, IsSameSpan, IsApart}

-- An opening depends on the bytes of the image that count for it.
abbrev pub GoesByWhatCounts : Type 0 → Type 0 → Type 0
GoesByWhatCounts Db C =
    (format : StoreFormat Db C) (latest : ℕ) (one two : List ℕ) (opening : Opening Db C) → length two ≡ length one
    → AllByRecursion (IsSameSpan one two) (spans_in format one opening)
    → IsOpening format latest one opening → IsOpening format latest two opening

-- A write outside of the bytes that count leaves the opening unchanged.
abbrev pub IsKeptByWritesElsewhere : Type 0 → Type 0 → Type 0
IsKeptByWritesElsewhere Db C =
    (format : StoreFormat Db C) (latest : ℕ) (image : List ℕ) (opening : Opening Db C) (at : ℕ) (bytes : List ℕ)
    → at + length bytes ≤ length image → AllByRecursion (IsApart at (length bytes)) (spans_in format image opening)
    → IsOpening format latest image opening → IsOpening format latest (overwrite at bytes image) opening

-- Where the chosen half's journal is not sealed, all that counts of the other half is that it is
-- closed, or has an older head.
abbrev pub GoesByTheChosenHalf : Type 0 → Type 0 → Type 0
GoesByTheChosenHalf Db C =
    (format : StoreFormat Db C) (latest : ℕ) (one two : List ℕ) (opening : Opening Db C) → length two ≡ length one
    → opening.tail ≡ None → AllByRecursion (IsSameSpan one two) (chosen_spans format opening [])
    → (IsOpenGate (gate_of opening.geometry (other opening.chosen) two)
    → HasOlderHead latest (area_of opening.geometry (other opening.chosen) two) opening.checkpoint.head.epoch)
    → IsOpening format latest one opening → IsOpening format latest two opening
