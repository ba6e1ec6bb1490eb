-- Each step keeps what the log says of every moment so far.
use Rattle.std.proofs.Common.{◌≡◌, ◌⊎◌, inl, inr, ⊎_elim, ℕ, zero, suc, ◌+◌, ◌-◌, ◌<◌, ◌≤◌, List, [], ◌∷◌, ◌++◌, length, replicate, get_or, refl, sym, ap, ◌∙◌, subst, arith, length-append}
use Rattle.std.proofs.lemmas.List.{drop-append-le, take-append-le, append-nil, get_or_append_left, get_or-append_right, get_or-replicate, length-replicate}
use Rattle.row_map.specs.Database.{RowView}
use Rattle.path_db.specs.declared.command.Command.{Command}
use Rattle.sector_dev.specs.Disk.{Disk, IsHonest}
use Rattle.sector_dev.specs.Image.{EveryImageSince}
use Rattle.sector_dev.specs.Stretch.{Stretch}
use Rattle.sector_dev.proofs.Stretches.{honest_before, stretch_here, stretch_then, stretch_weaker}
use Rattle.store_layout.specs.Opening.{StoreValue}
use Rattle.store_layout.specs.StoreValues.{value_after}
use Rattle.store_open.specs.PathStores.{store_format}
use Rattle.group_phases.specs.HeldSteps.{OpensAroundCall}
use Rattle.group_core.specs.StateView.{StateView}
use Rattle.group_core.specs.Stops.{config_of, commit_state_of, StepLeaves}
use Rattle.command_log.specs.Log.{Log, empty_log, log_with, with_committed, since_of}
use Rattle.logged_state.specs.LoggedView.{IsLogOf, moment_number}
use Rattle.logged_state.specs.Left.{OpensToFrontOf}
use Rattle.logged_state.specs.Kept.{IsKeptSince, IsKeptFrom, IsTied}
use Rattle.logged_state.proofs.LogFronts.{front_of_fewer, front_of_longer}
use Rattle.logged_state.proofs.LogStops.{opens_to_log}
use Rattle.logged_state.proofs.Moments.{since_then, since_now, since_weaker, number_then}

pub below_or_from : (k n : ℕ) → (k < n) ⊎ (n ≤ k)
below_or_from k zero = inr (omega arith)
below_or_from zero (suc n) = inl (omega arith)
below_or_from (suc k) (suc n) = ⊎_elim (λ (below : k < n). inl (omega arith)) (λ (from : n ≤ k). inr (omega arith)) (below_or_from k n)

-- a step that accepts some commands, and commits some
module _ (start : Disk) (opening : StoreValue (List RowView)) (log after : Log) (old new : StateView) (more : List Command) (n : ℕ)
    (was : IsLogOf opening log old) (is : IsLogOf opening after new) (commands : after.commands ≡ log.commands ++ more) (committed : after.committed ≡ log.committed + n)
    (since : after.since ≡ log.since ++ replicate n (moment_number new.disk)) (leaves : StepLeaves old new) (kept : IsKeptFrom start opening log old.disk) where
  -- within the step each image has at least what was committed before it
  around : (least : ℕ) → least ≤ log.committed → (image : List ℕ) → OpensAroundCall (config_of old) (commit_state_of old) (commit_state_of new) image → OpensToFrontOf opening after.commands least image
  around least few image (inl opens) =
      front_of_longer opening log.commands more after.commands least commands image
      (front_of_fewer opening log.commands log.committed least few image (opens_to_log opening log old was image opens))
  around least few image (inr opens) =
      front_of_fewer opening after.commands after.committed least (omega (arith, few, committed)) image
      (opens_to_log opening after new is image (record { kept = opens.kept; may = opens.may; inside = opens.inside; opens = record { opens = opens.opens.opens; since = opens.opens.since } }))

  in_step : (least : ℕ) → least ≤ log.committed → Stretch old.disk new.disk (OpensToFrontOf opening after.commands least)
  in_step least few = stretch_weaker (OpensAroundCall (config_of old) (commit_state_of old) (commit_state_of new)) (OpensToFrontOf opening after.commands least) old.disk new.disk (around least few) leaves.moments

  -- the number of a command that was committed before
  since_before : (index : ℕ) → index < log.committed → since_of after index ≡ since_of log index
  since_before index below =
      let numbered = kept.numbered in
      ap (λ (l : List ℕ). get_or l index 0) since ∙ get_or_append_left log.since (replicate n (moment_number new.disk)) 0 index (omega (arith, below, numbered))

  -- the number of a command that is committed in this step
  since_new : (index : ℕ) → log.committed ≤ index → index < log.committed + n → since_of after index ≡ moment_number new.disk
  since_new index from below =
      ap (λ (l : List ℕ). get_or l index 0) since
      ∙ get_or-append_right log.since (replicate n (moment_number new.disk)) log.committed index 0 kept.numbered from
      ∙ get_or-replicate n (index - log.committed) (moment_number new.disk) 0 (omega (arith, from, below))

  kept_before : IsHonest new.disk → (index : ℕ) → index < log.committed → IsKeptSince opening after new.disk.history index
  kept_before honest index below =
      let honest_old = honest_before old.disk new.disk leaves.moments.keeps honest in
      let before = kept.kept honest_old index below in
      let Q : List ℕ → Type 0 = OpensToFrontOf opening after.commands (index + 1) in
      let step = (in_step (index + 1) (omega (arith, below))).leaves honest_old in
      let same = since_before index below in
      let reached = before.reached in
      let later = number_then Q old.disk.history new.disk.history step in
      record {
        reached = subst (λ (t : ℕ). t ≤ length new.disk.history.past) (sym same) (omega (arith, reached, later));
        every = subst (λ (t : ℕ). EveryImageSince t new.disk.history Q) (sym same)
            (since_then Q (since_of log index) old.disk.history new.disk.history reached
            (since_weaker (OpensToFrontOf opening log.commands (index + 1)) Q (since_of log index) old.disk.history (front_of_longer opening log.commands more after.commands (index + 1) commands) before.every)
            step);
      }

  kept_new : IsHonest new.disk → (index : ℕ) → log.committed ≤ index → index < log.committed + n → IsKeptSince opening after new.disk.history index
  kept_new honest index from below =
      let Q : List ℕ → Type 0 = OpensToFrontOf opening after.commands (index + 1) in
      let same = since_new index from below in
      record {
        reached = subst (λ (t : ℕ). t ≤ length new.disk.history.past) (sym same) (omega arith);
        every = subst (λ (t : ℕ). EveryImageSince t new.disk.history Q) (sym same)
            (since_now Q new.disk.history
            (λ content image. front_of_fewer opening after.commands after.committed (index + 1) (omega (arith, below, committed)) content (opens_to_log opening after new is content (leaves.exit honest content image))));
      }

  pub kept_step : IsKeptFrom start opening after new.disk
  kept_step =
      let numbered = kept.numbered in
      let P : List ℕ → Type 0 = OpensToFrontOf opening log.commands 0 in
      let Q : List ℕ → Type 0 = OpensToFrontOf opening after.commands 0 in
      record {
        moments = stretch_then Q start old.disk new.disk (stretch_weaker P Q start old.disk (front_of_longer opening log.commands more after.commands 0 commands) kept.moments) (in_step 0 (omega arith));
        numbered = ap (λ (l : List ℕ). length l) since ∙ (omega (arith, numbered, committed, length-append log.since (replicate n (moment_number new.disk)), length-replicate n (moment_number new.disk)));
        kept = λ honest index below. ⊎_elim (λ (before : index < log.committed). kept_before honest index before) (λ (from : log.committed ≤ index). kept_new honest index from (omega (arith, below, committed))) (below_or_from index log.committed);
      }

-- a step that leaves the log as it is
pub tied_same : (start : Disk) (opening : StoreValue (List RowView)) (log : Log) (old new : StateView) → IsTied start opening log old → IsLogOf opening log new → StepLeaves old new → IsTied start opening log new
tied_same start opening log old new was is leaves = record {
  tie = is;
  kept = kept_step start opening log log old new [] 0 was.tie is (sym (append-nil log.commands)) (omega arith) (sym (append-nil log.since)) leaves was.kept;
}

-- a step that accepts a command
pub tied_with : (start : Disk) (opening : StoreValue (List RowView)) (log : Log) (old new : StateView) (command : Command) → IsTied start opening log old → IsLogOf opening (log_with command log) new → StepLeaves old new → IsTied start opening (log_with command log) new
tied_with start opening log old new command was is leaves = record {
  tie = is;
  kept = kept_step start opening log (log_with command log) old new (command ∷ []) 0 was.tie is refl (omega arith) (sym (append-nil log.since)) leaves was.kept;
}

-- a step that commits some commands
pub tied_committed : (start : Disk) (opening : StoreValue (List RowView)) (log after : Log) (old new : StateView) (n moment : ℕ) → moment ≡ moment_number new.disk → after ≡ with_committed n moment log
    → IsTied start opening log old → IsLogOf opening after new → StepLeaves old new → IsTied start opening after new
tied_committed start opening log after old new n moment number same was is leaves = record {
  tie = is;
  kept = kept_step start opening log after old new [] n was.tie is (ap (λ (l : Log). l.commands) same ∙ sym (append-nil log.commands)) (ap (λ (l : Log). l.committed) same)
      (ap (λ (l : Log). l.since) same ∙ ap (λ (m : ℕ). log.since ++ replicate n m) number) leaves was.kept;
}

-- a new state
pub tied_new : (start : Disk) (opening : StoreValue (List RowView)) (view : StateView) → view.disk ≡ start → IsLogOf opening empty_log view → StepLeaves view view → IsTied start opening empty_log view
tied_new start opening view same is leaves = record {
  tie = is;
  kept = subst (λ (d : Disk). IsKeptFrom d opening empty_log view.disk) same (record {
    moments = stretch_here (OpensToFrontOf opening [] 0) view.disk (λ honest content image. opens_to_log opening empty_log view is content (leaves.exit honest content image));
    numbered = refl;
    kept = λ honest index below. absurd (omega (arith, below));
  });
}

-- the tie of a new log, and of one more accepted command
pub log_new : (opening : StoreValue (List RowView)) (view : StateView) → view.value ≡ opening → view.shown ≡ [] → view.pending ≡ [] → IsLogOf opening empty_log view
log_new opening view value shown pending =
    let same : opening.place ≡ opening.place + 0 = omega arith in
    record { value = value ∙ (λ i. record { db = opening.db; place = same i }); shown = shown; pending = pending; inside = omega arith }

pub log_pushed : (opening : StoreValue (List RowView)) (log : Log) (old new : StateView) (command : Command) → IsLogOf opening log old → new.value ≡ old.value → new.shown ≡ old.shown → new.pending ≡ old.pending ++ command ∷ [] → IsLogOf opening (log_with command log) new
log_pushed opening log old new command h value shown pending =
    let inside = h.inside in
    record {
      value = value ∙ h.value ∙ ap (λ (l : List Command). value_after store_format opening l) (sym (take-append-le log.committed log.commands (command ∷ []) inside));
      shown = shown ∙ h.shown ∙ sym (take-append-le log.committed log.commands (command ∷ []) inside);
      pending = pending ∙ ap (λ (l : List Command). l ++ command ∷ []) h.pending ∙ sym (drop-append-le log.committed log.commands (command ∷ []) inside);
      inside = omega (arith, inside, length-append log.commands (command ∷ []));
    }
