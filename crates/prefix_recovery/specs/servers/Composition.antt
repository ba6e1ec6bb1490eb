-- A law of servers one after the other.
use Rattle.std.specs.Prelude.{ℕ, ◌+◌, ◌≤◌, List, ◌++◌, take, map}
use Rattle.row_map.specs.Database.{RowView}
use Rattle.path_db.specs.declared.command.Command.{Command}
use Rattle.store_layout.specs.Opening.{StoreValue}
use Rattle.command_log.specs.declared.rule.Claim.{Claim}
use Rattle.prefix_recovery.specs.servers.Survival.{Survives}

-- The claims of commands that follow this many others.
abbrev pub claims_after : ℕ → List Claim → List Claim
claims_after n claims = map (λ claim. record { index = n + claim.index; command = claim.command }) claims

-- The lists that lookups showed of a later server, each after these commands.
abbrev pub looked_after : List Command → List (List Command) → List (List Command)
looked_after before looked = map (λ list. before ++ list) looked

-- What survived a stop of a server, and what survived a stop of a second server of the store that
-- was opened then: together the value of the first start after a front of one order. That order is
-- what survived of the first log and then the second log. The front has the claimed commands of
-- both, and begins with what lookups of each showed.
abbrev pub ServersCompose : Type 0
ServersCompose =
    (start middle last : StoreValue (List RowView)) (order later : List Command) (claims more : List Claim) (looked seen : List (List Command))
    → (first : Survives start order claims looked middle) → Survives middle later more seen last
    → Survives start (take first.front.kept order ++ later) (claims ++ claims_after first.front.kept more)
    (looked ++ looked_after (take first.front.kept order) seen) last × (middle.place ≤ last.place)
