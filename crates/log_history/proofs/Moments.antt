-- The logs of entries.
use Rattle.std.proofs.Common.{◌≡◌, ◌⊎◌, inl, inr, ⊎_elim, ℕ, ◌+◌, ◌≤◌, List, [], ◌∷◌, ◌++◌, refl, sym, ap, ◌∙◌, arith}
use Rattle.std.specs.Prelude.{flat_map, sum_by}
use Rattle.std.proofs.lemmas.Grind.{flat_map-append}
use Rattle.std.proofs.lemmas.List.{append-nil}
use Rattle.std.proofs.lemmas.List.Sums.{sum_by-append}
use mathlib.Core.List.{IsPrefix}
use Rattle.logbook.specs.Pages.{Book}
use Rattle.path_db.specs.declared.command.Command.{Command}
use Rattle.log_history.specs.declared.rule.Entry.{Entry}
use Rattle.log_history.specs.Entries.{LogMoment, log_accepting, log_committing, IsPastOf, accepting, committing, accepted_in, committed_in, log_of}
use Rattle.log_history.proofs.Fronts.{either_front}

-- one more entry
pub accepts : (book : Book) (entries now : List Entry) (command : Command) (next : ℕ) → now ≡ entries ++ accepting command next ∷ [] → log_of book now ≡ log_accepting command (log_of book entries)
accepts book entries now command next is =
    let commands = ap (λ (l : List Entry). flat_map accepted_in l) is ∙ flat_map-append accepted_in entries (accepting command next ∷ []) in
    let sums = ap (λ (l : List Entry). sum_by committed_in l) is ∙ sum_by-append committed_in entries (accepting command next ∷ []) in
    let committed : sum_by committed_in now ≡ sum_by committed_in entries = omega (arith, sums) in
    λ i. record { book = book; commands = commands i; committed = committed i }

pub commits : (book : Book) (entries now : List Entry) (more next : ℕ) → now ≡ entries ++ committing more next ∷ [] → log_of book now ≡ log_committing more (log_of book entries)
commits book entries now more next is =
    let commands = ap (λ (l : List Entry). flat_map accepted_in l) is ∙ flat_map-append accepted_in entries (committing more next ∷ []) ∙ append-nil (flat_map accepted_in entries) in
    let sums = ap (λ (l : List Entry). sum_by committed_in l) is ∙ sum_by-append committed_in entries (committing more next ∷ []) in
    let committed : sum_by committed_in now ≡ sum_by committed_in entries + more = omega (arith, sums) in
    λ i. record { book = book; commands = commands i; committed = committed i }

-- a front of the entries is a past log
pub past_of : (book same : Book) (front entries : List Entry) → IsPrefix front entries → IsPastOf (log_of book front) (log_of same entries)
past_of book same front entries p =
    let sums = ap (λ (l : List Entry). sum_by committed_in l) (sym p.1) ∙ sum_by-append committed_in front p.0 in
    record {
      front = (flat_map accepted_in p.0, sym (flat_map-append accepted_in front p.0) ∙ ap (λ (l : List Entry). flat_map accepted_in l) p.1);
      committed = omega (arith, sums);
    }

-- of two fronts, one is a past log of the other
pub either_past : (book same : Book) (one two all : List Entry) → IsPrefix one all → IsPrefix two all → IsPastOf (log_of book one) (log_of same two) ⊎ IsPastOf (log_of same two) (log_of book one)
either_past book same one two all p q =
    ⊎_elim (λ (f : IsPrefix one two). inl (past_of book same one two f)) (λ (f : IsPrefix two one). inr (past_of same book two one f)) (either_front one two all p q)
