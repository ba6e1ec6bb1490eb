-- What an answer says of the command of its claim.
use Rattle.std.proofs.Common.{◌≡◌, ℕ, ◌+◌, ◌<◌, ◌∙◌, Bool, true, List, Option, Some, None, Result, Ok, Err, IfOk, IfErr, MatchOption, refl, sym, ap, arith}
use Rattle.std.proofs.lemmas.Bool.Decides.{nat_tests}
use Rattle.std.specs.Result.{ForOk, ForErr}
use Rattle.row_map.specs.Database.{RowView}
use Rattle.path_db.specs.declared.command.Command.{Command}
use Rattle.store_layout.specs.Opening.{StoreValue}
use Rattle.group_core.specs.declared.submit_error.SubmitError.{SubmitError}
use Rattle.logged_state.specs.ReceiptView.{ReceiptView}
use Rattle.hub_claims.specs.declared.answer.NotCommitted.{NotCommitted}
use Rattle.hub_claims.specs.Committed.{ReceiptShows, is_above, reason_in}

-- a note above a place, by the test and back
pub tests : (place : ℕ) (note : Option ℕ) → MatchOption note ⊥ (λ shown. place < shown) → is_above place note ≡ true
tests place None h = absurd h
tests place (Some shown) h = grind (arith, nat_tests, h)

tested : (place : ℕ) (note : Option ℕ) → is_above place note ≡ true → MatchOption note ⊥ (λ shown. place < shown)
tested place None h = absurd (cc h)
tested place (Some shown) h = grind (arith, nat_tests, h)

-- what an answer has is a receipt of each command that its claim shows
pub answer_shows : {E : Type 0} (opening : StoreValue (List RowView)) (claimed command : Command) (outcome : Result (ReceiptView ℕ) E)
    → ForOk outcome (λ receipt. receipt.logged.command ≡ claimed) → ForOk outcome (λ receipt. receipt.place ≡ opening.place + receipt.logged.index)
    → ForOk outcome (λ receipt. is_above receipt.place receipt.note ≡ true) → claimed ≡ command → IfOk outcome (ReceiptShows opening command)
answer_shows opening claimed command (Ok receipt) shows placed above same =
    record { command = shows receipt refl ∙ same; place = placed receipt refl; note = tested receipt.place receipt.note (above receipt refl) }
answer_shows opening claimed command (Err e) shows placed above same = tt

-- where an answer has no receipt, each command that its claim shows is refused
pub answer_refuses : {R : Type 0} (refused : Command → Option SubmitError → Bool) (claimed command : Command) (outcome : Result R NotCommitted)
    → ForErr outcome (λ why. refused claimed (reason_in why) ≡ true) → claimed ≡ command → IfErr outcome (λ why. refused command (reason_in why) ≡ true)
answer_refuses refused claimed command (Ok receipt) known same = tt
answer_refuses refused claimed command (Err why) known same = sym (ap (λ (c : Command). refused c (reason_in why)) same) ∙ known why refl
