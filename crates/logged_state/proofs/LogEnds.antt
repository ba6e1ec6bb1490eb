-- The end of a state: what is durable is committed in the log, too.
use Rattle.std.proofs.Common.{◌≡◌, ◌⊎◌, ⊎_elim, ℕ, ◌+◌, ◌-◌, ◌<◌, ◌≤◌, List, ◌++◌, length, take, drop, replicate, sym, ap, ◌∙◌, subst, arith, append_assoc, take-append-drop}
use Rattle.std.proofs.lemmas.List.{get_or_append_left, get_or-append_right, get_or-replicate}
use Rattle.std.proofs.Math.Seq.{take-add}
use mathlib.Core.List.{IsPrefix}
use Rattle.row_map.specs.Database.{RowView}
use Rattle.path_db.specs.declared.command.Command.{Command}
use Rattle.sector_dev.specs.Disk.{Disk, IsHonest}
use Rattle.sector_dev.specs.Image.{EveryImage, EveryImageSince}
use Rattle.store_layout.specs.Opening.{StoreValue, OpensTo}
use Rattle.store_layout.specs.StoreValues.{value_after}
use Rattle.store_layout.specs.Limits.{latest}
use Rattle.store_open.specs.PathStores.{store_format}
use Rattle.group_phases.specs.declared.phases.Flush.{Flush}
use Rattle.group_phases.specs.declared.phases.Flush.TheVariants.{Resting, Staged, Written, Stable, Opened, Doubtful, Durable, Following, Followed, DurableFollowed}
use Rattle.group_phases.specs.CommitState.{MayKeep}
use Rattle.group_core.specs.StateView.{StateView}
use Rattle.group_core.specs.Stops.{MayOpen}
use Rattle.group_core.specs.Showing.{IsFrontOf}
use Rattle.group_core.specs.Ending.{durable_at, durable_of}
use Rattle.command_log.specs.Log.{Log, with_committed, since_of}
use Rattle.logged_state.specs.LoggedView.{IsLogOf, moment_number}
use Rattle.logged_state.specs.Left.{OpensToFrontOf, OpensToLog}
use Rattle.logged_state.specs.Kept.{IsKeptSince, IsKeptFrom, AllKept}
use Rattle.logged_state.proofs.LogFronts.{front_of_fewer}
use Rattle.logged_state.proofs.LogKeeps.{below_or_from}
use Rattle.logged_state.proofs.LogCommits.{then_front, pending_is}
use Rattle.logged_state.proofs.Moments.{since_now}

-- a stop keeps what is durable
durable_kept : (flush : Flush) (taken kept : ℕ) → MayKeep flush taken kept → durable_at flush taken ≤ kept
durable_kept Resting taken kept may = omega arith
durable_kept Staged taken kept may = omega arith
durable_kept Written taken kept may = omega arith
durable_kept Stable taken kept may = omega arith
durable_kept Opened taken kept may = omega arith
durable_kept Doubtful taken kept may = omega arith
durable_kept Durable taken kept may = omega (arith, may)
durable_kept Following taken kept may = omega arith
durable_kept Followed taken kept may = omega arith
durable_kept DurableFollowed taken kept may = omega (arith, may)

-- what a stop leaves has what is durable
pub opens_at_end : (opening : StoreValue (List RowView)) (log : Log) (view : StateView) → IsLogOf opening log view → (image : List ℕ) → MayOpen view image
    → OpensToFrontOf opening log.commands (log.committed + durable_of view) image
opens_at_end opening log view h image opens =
    let long = pending_is opening log view h in
    let inside = opens.inside in
    let durable = durable_kept view.flush view.taken opens.kept opens.may in
    let same : value_after store_format view.value (take opens.kept view.pending) ≡ value_after store_format opening (take (log.committed + opens.kept) log.commands) =
    (λ i. value_after store_format (h.value i) (take opens.kept (h.pending i))) ∙ then_front opening log.commands log.committed opens.kept in
    record {
      count = log.committed + opens.kept;
      enough = omega (arith, durable);
      inside = omega (arith, long, inside);
      opens = subst (λ (v : StoreValue (List RowView)). OpensTo store_format latest image v) same opens.opens.opens;
    }

-- what was shown, and a front of what is durable, is committed at the end
pub shown_at_end : (opening : StoreValue (List RowView)) (log : Log) (view : StateView) (shown owed : List Command) → IsLogOf opening log view → shown ≡ view.shown
    → IsFrontOf owed (take (durable_of view) view.pending) → IsPrefix (shown ++ owed) (take (log.committed + durable_of view) log.commands)
shown_at_end opening log view shown owed h is front =
    let durable = take (durable_of view) view.pending in
    let rest = drop (length owed) durable in
    let whole : owed ++ rest ≡ durable = ap (λ (l : List Command). l ++ rest) (sym front) ∙ take-append-drop (length owed) durable in (
      rest,
      append_assoc shown owed rest ∙ ap (λ (l : List Command). shown ++ l) whole
          ∙ (λ i. (is ∙ h.shown) i ++ take (durable_of view) (h.pending i)) ∙ sym (take-add log.committed (durable_of view) log.commands),
    )

-- each command that is committed at the end is kept since its moment
module _ (start : Disk) (opening : StoreValue (List RowView)) (log : Log) (view : StateView) (tie : IsLogOf opening log view) (kept : IsKeptFrom start opening log view.disk)
    (opens : IsHonest view.disk → EveryImage view.disk.history.now (MayOpen view)) where
  abbrev number : ℕ
  number = moment_number view.disk

  abbrev after : Log
  after = with_committed (durable_of view) number log

  kept_before : IsHonest view.disk → (index : ℕ) → index < log.committed → IsKeptSince opening after view.disk.history index
  kept_before honest index below =
      let numbered = kept.numbered in
      let before = kept.kept honest index below in
      let same : since_of after index ≡ since_of log index = get_or_append_left log.since (replicate (durable_of view) number) 0 index (omega (arith, below, numbered)) in
      record {
        reached = subst (λ (t : ℕ). t ≤ length view.disk.history.past) (sym same) before.reached;
        every = subst (λ (t : ℕ). EveryImageSince t view.disk.history (OpensToFrontOf opening log.commands (index + 1))) (sym same) before.every;
      }

  kept_now : IsHonest view.disk → (index : ℕ) → log.committed ≤ index → index < log.committed + durable_of view → IsKeptSince opening after view.disk.history index
  kept_now honest index from below =
      let Q : List ℕ → Type 0 = OpensToFrontOf opening log.commands (index + 1) in
      let same : since_of after index ≡ number =
      get_or-append_right log.since (replicate (durable_of view) number) log.committed index 0 kept.numbered from
      ∙ get_or-replicate (durable_of view) (index - log.committed) number 0 (omega (arith, from, below)) in
      record {
        reached = subst (λ (t : ℕ). t ≤ length view.disk.history.past) (sym same) (omega arith);
        every = subst (λ (t : ℕ). EveryImageSince t view.disk.history Q) (sym same)
            (since_now Q view.disk.history
            (λ content image. front_of_fewer opening log.commands (log.committed + durable_of view) (index + 1) (omega (arith, below)) content (opens_at_end opening log view tie content (opens honest content image))));
      }

  kept_at_end : IsHonest view.disk → AllKept opening after view.disk.history
  kept_at_end honest index below =
      ⊎_elim (λ (before : index < log.committed). kept_before honest index before) (λ (from : log.committed ≤ index). kept_now honest index from below) (below_or_from index log.committed)

  -- the same of the log and the device that come out
  left_now : IsHonest view.disk → EveryImage view.disk.history.now (OpensToLog opening after)
  left_now honest content image = opens_at_end opening log view tie content (opens honest content image)

  pub left_at_end : (all : Log) (disk : Disk) → all ≡ after → disk ≡ view.disk → IsHonest disk → EveryImage disk.history.now (OpensToLog opening all)
  left_at_end all disk is same =
      subst (λ (l : Log). IsHonest disk → EveryImage disk.history.now (OpensToLog opening l)) (sym is)
      (subst (λ (d : Disk). IsHonest d → EveryImage d.history.now (OpensToLog opening after)) (sym same) left_now)

  pub all_kept_at_end : (all : Log) (disk : Disk) → all ≡ after → disk ≡ view.disk → IsHonest disk → AllKept opening all disk.history
  all_kept_at_end all disk is same =
      subst (λ (l : Log). IsHonest disk → AllKept opening l disk.history) (sym is)
      (subst (λ (d : Disk). IsHonest d → AllKept opening after d.history) (sym same) kept_at_end)
