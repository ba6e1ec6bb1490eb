-- Laws of openings: the function returns exactly what the relation defines. Each statement is the
-- contract of a function.
use Rattle.std.specs.Prelude.{◌≡◌, ◌↔◌, ℕ, ◌≤◌, List, Ok, Err}
use Rattle.byte_lists.specs.Content.{AreBytes}
use Rattle.store_layout.specs.StoreFormat.{StoreFormat}
use Rattle.store_layout.specs.Opening.{Opening, IsOpening, StoreValue, OpensTo}
use Rattle.store_layout.specs.OpeningReading.{OpenRefusal, opening_of, store_value}
use Rattle.store_layout.specs.OpeningRefusals.{IsOpenRefusal}

-- An image is read as an opening exactly where the image opens with it.
abbrev pub IsOpenedSo : Type 0 → Type 0 → Type 0
IsOpenedSo Db C =
    (format : StoreFormat Db C) (latest : ℕ) (image : List ℕ) (opening : Opening Db C) → AreBytes image
    → (opening_of format latest image ≡ Ok opening) ↔ IsOpening format latest image opening

-- An image is refused exactly where the definition of the refusal holds.
abbrev pub IsOpenRefusedSo : Type 0 → Type 0 → Type 0
IsOpenRefusedSo Db C =
    (format : StoreFormat Db C) (latest : ℕ) (image : List ℕ) (refusal : OpenRefusal) → AreBytes image
    → (opening_of format latest image ≡ Err refusal) ↔ IsOpenRefusal refusal format latest image

-- The value of an image is read exactly where the image opens to it.
abbrev pub HasValueJustWhere : Type 0 → Type 0 → Type 0
HasValueJustWhere Db C =
    (format : StoreFormat Db C) (latest : ℕ) (image : List ℕ) (value : StoreValue Db) → AreBytes image
    → (store_value format latest image ≡ Ok value) ↔ OpensTo format latest image value

-- An image opens to at most one value.
abbrev pub HasOneValue : Type 0 → Type 0 → Type 0
HasOneValue Db C =
    (format : StoreFormat Db C) (latest : ℕ) (image : List ℕ) (one other : StoreValue Db)
    → OpensTo format latest image one → OpensTo format latest image other → one ≡ other

-- An image that opens where fewer versions are known opens to the same value where more are known.
abbrev pub OpensUnderLaterVersions : Type 0 → Type 0 → Type 0
OpensUnderLaterVersions Db C =
    (format : StoreFormat Db C) (earlier later : ℕ) (image : List ℕ) (value : StoreValue Db) → earlier ≤ later
    → OpensTo format earlier image value → OpensTo format later image value
