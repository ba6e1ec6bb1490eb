-- Steps of a purge, one after the other.
use Rattle.std.proofs.Common.{◌≡◌, ℕ, ◌<◌, ◌≤◌, ◌==◌, Bool, true, false, IsTrue, List, [], ◌∷◌, Option, if◌then◌else◌, length, nat_lt, refl, sym, ap, ◌∙◌, subst, append-nil, arith}
use Rattle.std.proofs.lemmas.Bool.Decides.{nat_tests}
use Rattle.session_core.specs.declared.service.Ack.{Ack}
use Rattle.cli_ask.specs.declared.steps.Step.{Step}
use Rattle.cli_ask.specs.Purging.{HasAdded, HasDropped, is_done, step_after, total_with_all}
use Rattle.cli_ask.specs.Talk.{Byte, Passes}
use Rattle.cli_ask.proofs.Talk.{Passes-trans}

module _ (last : ℕ) (step : Step) where
  -- the last step
  pub dropped-last : (t u : Option (List Byte)) (old new : Option Ack) (dropped : ℕ) → last ≤ step.moment → HasAdded t u step.moment old new dropped → HasDropped t u last step old new
  dropped-last t u old new dropped behind added =
      let test : nat_lt step.moment last ≡ false = grind (arith, nat_tests) in
      record {
        acks = added.last ∷ [];
        passed = subst (Passes t u) (sym (append-nil _)) added.passed;
        done = subst (λ (b : Bool). IsTrue (if b then false else true)) (sym test) refl;
        total = added.total;
      }

  -- a step behind which others follow
  pub dropped-more : (t u v : Option (List Byte)) (old mid new : Option Ack) (dropped : ℕ) → step.moment < last → HasAdded t u step.moment old mid dropped
      → HasDropped u v last (step_after step dropped last) mid new → HasDropped t v last step old new
  dropped-more t u v old mid new dropped before added rest =
      let test : nat_lt step.moment last ≡ true = grind (arith, nat_tests) in
      let same = subst (λ (n : ℕ). HasDropped u v last (step_after step n last) mid new) added.purged rest in
      record {
        acks = added.last ∷ same.acks;
        passed = Passes-trans t u v _ _ added.passed same.passed;
        done = subst (λ (b : Bool). IsTrue (if b then is_done last (step_after step added.last.outcome.purged last) same.acks else (length same.acks == 0))) (sym test) same.done;
        total = same.total ∙ ap (λ (m : Option Ack). total_with_all m same.acks) added.total;
      }
