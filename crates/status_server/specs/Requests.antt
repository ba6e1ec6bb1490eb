-- What a peer asks for, by what it has sent.
use Rattle.std.specs.Prelude.{◌≡◌, ◌<◌, ◌≤◌, ◌⊎◌, ℕ, List, [], length, Option, Some, None}
use Rattle.status_page.specs.declared.request.Asked.{Asked}
use Rattle.status_page.specs.declared.request.Asked.TheVariants.{More}
use Rattle.status_page.specs.Request.{IsAsked}

-- The last piece of these bytes has come, of which an empty one is the end. Either this is what the
-- bytes ask for, or they have no whole head, are fewer than `most`, and the piece was not the end.
-- Where no whole head is what the bytes ask for, no more of one may follow: the piece was the end,
-- or there are `most` of them.
abbrev pub IsPieceTaken : ℕ → List ℕ → List ℕ → Option Asked → Type 0
IsPieceTaken most head piece (Some More) = IsAsked head More × ((piece ≡ []) ⊎ (most ≤ length head))
IsPieceTaken most head piece (Some asked) = IsAsked head asked
IsPieceTaken most head piece None = IsAsked head More × ((0 < length piece) × (length head < most))
