-- Options of a command that was met, of which one needs another.
use Rattle.std.specs.Prelude.{◌≡◌, ◌⊎◌, true, Some, codes, is_some}
use Rattle.clap.specs.declared.parser.matches.Found.{Found}
use Rattle.clap.specs.Words.{Text, matched_of, one_text}

-- An option was given.
abbrev pub IsGiven : Found → Text → Type 0
IsGiven found name = is_some (matched_of found name) ≡ true

-- The sizes of a store were given: by its rows, or both by themselves.
abbrev pub HasSizes : Found → Type 0
HasSizes found = IsGiven found (codes "rows") ⊎ (IsGiven found (codes "checkpoint") × IsGiven found (codes "journal"))

-- The seats of sessions that only look up are given only where such sessions are served, and a new
-- store only with its size.
pub record FitsRun (found : Found) : Type 0 where
  pub seats : IsGiven found (codes "lookup-seats") → IsGiven found (codes "lookups")
  pub rows : one_text found (codes "new") ≡ Some (codes "true") → IsGiven found (codes "rows")
