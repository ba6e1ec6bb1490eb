-- The requests of the command that asks a server, by their names.
use Rattle.std.specs.Prelude.{◌≡◌, ℕ, ◌≤◌, Some, codes, length}
use Rattle.std.specs.Option.{option_map_or}
use Rattle.clap.specs.declared.parser.matches.Found.{Found}
use Rattle.clap.specs.Words.{Text, first_value, matched_of, one_text, raw_values}
use Rattle.cli_words.specs.declared.request.Request.{Request}
use Rattle.cli_words.specs.declared.request.Request.TheVariants.{Lookup, List, Register, Purge, Remove}

-- the name of a request
abbrev pub request_name : Request → Text
request_name Lookup = codes "lookup"
request_name List = codes "list"
request_name Register = codes "register"
request_name Purge = codes "purge"
request_name Remove = codes "remove"

-- This number of words may come after the name.
abbrev pub TakesWords : Request → ℕ → Type 0
TakesWords Lookup count = count ≡ 2
TakesWords List count = count ≤ 3
TakesWords Register count = count ≡ 1
TakesWords Purge count = count ≤ 1
TakesWords Remove count = count ≡ 2

-- How many words came after the name of the request.
abbrev pub word_count : Found → ℕ
word_count found = option_map_or (λ words. length (raw_values words)) (matched_of found (codes "words")) 0

-- What was found has a request, and as many words after its name as it takes. One that is to be made
-- at once is a purge.
pub record HasRequest (found : Found) : Type 0 where
  pub request : Request
  pub name : first_value found (codes "request") ≡ Some (request_name request)
  pub count : TakesWords request (word_count found)
  pub at_once : one_text found (codes "at-once") ≡ Some (codes "true") → request ≡ Purge
