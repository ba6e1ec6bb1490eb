-- What a stop leaves of a run, step by step.
use Rattle.std.proofs.Common.{◌≡◌, inl, inr, ℕ, ◌+◌, ◌-◌, ◌≤◌, List, [], ◌++◌, length, take, drop, refl, sym, ◌∙◌, ap, subst, arith, length-append, length-drop}
use Rattle.std.proofs.lemmas.List.{take-append-le, drop-append-le, drop-drop, append-nil, length-take-le}
use Rattle.std.proofs.Math.Seq.{take-add}
use Rattle.row_map.specs.Database.{RowView}
use Rattle.path_db.specs.declared.command.Command.{Command}
use Rattle.sector_dev.specs.Disk.{IsHonest}
use Rattle.sector_dev.specs.Image.{EveryImage, IsFromImage}
use Rattle.sector_dev.specs.Stretch.{Stretch}
use Rattle.sector_dev.proofs.Stretches.{honest_before, at_exit, stretch_weaker, stretch_then, stretch_here, stretch_honest}
use Rattle.store_layout.specs.Layout.{Geometry}
use Rattle.store_layout.specs.Opening.{StoreValue, OpensTo}
use Rattle.store_layout.specs.StoreValues.{value_after}
use Rattle.store_layout.proofs.Exports.{folds_in_parts}
use Rattle.store_layout.specs.Limits.{latest}
use Rattle.store_open.specs.Behind.{SameBehind}
use Rattle.store_open.specs.PathStores.{store_format}
use Rattle.group_phases.specs.HeldSteps.{OpensAroundCall}
use Rattle.group_core.specs.StateView.{StateView}
use Rattle.group_core.specs.Stops.{config_of, commit_state_of, MayOpen, StepLeaves}
use Rattle.group_recovery.specs.RunLeaves.{IsFrontCommitted, OpensToPrefix, RunLeaves}

-- The effect of a step on the committed and the pending commands: a number of the first pending
-- commands are committed, and more commands are accepted. The sizes stay.
pub record Moves (more : List Command) (old new : StateView) : Type 0 where
  pub shown : ℕ
  pub inside : shown ≤ length old.pending
  pub value : new.value ≡ value_after store_format old.value (take shown old.pending)
  pub pending : new.pending ≡ drop shown old.pending ++ more
  pub geometry : new.geometry ≡ old.geometry

pub length_drop : {A : Type 0} (n : ℕ) (list : List A) → n ≤ length list → length (drop n list) + n ≡ length list
length_drop n list inside = omega (arith, length-drop n list)

-- two fronts, one after the other
in_parts : (value : StoreValue (List RowView)) (front behind : List Command) → value_after store_format (value_after store_format value front) behind ≡ value_after store_format value (front ++ behind)
in_parts value front behind =
    let db = sym (folds_in_parts (List RowView) Command store_format value.db front behind) in
    let place : value.place + length front + length behind ≡ value.place + length (front ++ behind) = omega (arith, length-append front behind) in
    λ i. record { db = db i; place = place i }

pub then_front : (value : StoreValue (List RowView)) (order : List Command) (done n : ℕ) → value_after store_format (value_after store_format value (take done order)) (take n (drop done order)) ≡ value_after store_format value (take (done + n) order)
then_front value order done n =
    in_parts value (take done order) (take n (drop done order)) ∙ ap (λ (l : List Command). value_after store_format value l) (sym (take-add done n order))

-- a front of the pending commands, after the committed ones
module _ (start mid : StateView) (order : List Command) (is : IsFrontCommitted start order mid) where
  to_prefix : (image : List ℕ) → MayOpen mid image → OpensToPrefix start order is.done image
  to_prefix image opens =
      let long : length mid.pending + is.done ≡ length order = ap (λ (l : List Command). length l + is.done) is.pending ∙ length_drop is.done order is.inside in
      let same : value_after store_format mid.value (take opens.kept mid.pending) ≡ value_after store_format start.value (take (is.done + opens.kept) order) =
      (λ i. value_after store_format (is.value i) (take opens.kept (is.pending i))) ∙ then_front start.value order is.done opens.kept in
      record {
        kept = is.done + opens.kept;
        enough = omega arith;
        inside = omega (arith, long, opens.inside);
        opens = subst (λ (v : StoreValue (List RowView)). OpensTo store_format latest image v) same opens.opens.opens;
      }

  -- one more step
  committed_then : (new : StateView) (more : List Command) → Moves more mid new → IsFrontCommitted start (order ++ more) new
  committed_then new more moves =
      let long : length mid.pending + is.done ≡ length order = ap (λ (l : List Command). length l + is.done) is.pending ∙ length_drop is.done order is.inside in
      let within : is.done + moves.shown ≤ length order = omega (arith, long, moves.inside) in
      record {
        done = is.done + moves.shown;
        inside = omega (arith, within, length-append order more);
        value =
            moves.value
            ∙ (λ i. value_after store_format (is.value i) (take moves.shown (is.pending i)))
            ∙ then_front start.value order is.done moves.shown
            ∙ ap (λ (l : List Command). value_after store_format start.value l) (sym (take-append-le (is.done + moves.shown) order more within));
        pending =
            moves.pending
            ∙ ap (λ (l : List Command). drop moves.shown l ++ more) is.pending
            ∙ ap (λ (l : List Command). l ++ more) (drop-drop moves.shown is.done order)
            ∙ sym (drop-append-le (is.done + moves.shown) order more within);
      }

-- a smaller lower bound, and a longer order
pub less_prefix : (start : StateView) (order : List Command) (least fewer : ℕ) → fewer ≤ least → (image : List ℕ) → OpensToPrefix start order least image → OpensToPrefix start order fewer image
less_prefix start order least fewer less image opens = record { kept = opens.kept; enough = omega (arith, less, opens.enough); inside = opens.inside; opens = opens.opens }

pub longer_prefix : (start : StateView) (order more : List Command) (least : ℕ) (image : List ℕ) → OpensToPrefix start order least image → OpensToPrefix start (order ++ more) least image
longer_prefix start order more least image opens = record {
  kept = opens.kept;
  enough = opens.enough;
  inside = omega (arith, opens.inside, length-append order more);
  opens = subst (λ (l : List Command). OpensTo store_format latest image (value_after store_format start.value l)) (sym (take-append-le opens.kept order more opens.inside)) opens.opens;
}

-- the places determine how many commands are committed
done_is : (start end : StateView) (order : List Command) (is : IsFrontCommitted start order end) → end.value.place - start.value.place ≡ is.done
done_is start end order is =
    let place : end.value.place ≡ start.value.place + length (take is.done order) = ap (λ (v : StoreValue (List RowView)). v.place) is.value in
    omega (arith, place, length-take-le is.done order is.inside)

exit_so : (start end : StateView) (order : List Command) → IsFrontCommitted start order end → (IsHonest end.disk → EveryImage end.disk.history.now (MayOpen end))
    → IsHonest end.disk → EveryImage end.disk.history.now (OpensToPrefix start order (end.value.place - start.value.place))
exit_so start end order is exit honest image left =
    subst (λ (n : ℕ). OpensToPrefix start order n image) (sym (done_is start end order is)) (to_prefix start end order is image (exit honest image left))

-- the bytes after the store, compared with the state at the start
abbrev pub Behind : StateView → List ℕ → Type 0
Behind view = IsFromImage view.disk.history.now (SameBehind view.geometry)

pub behind_then : (start mid new : StateView) → mid.geometry ≡ start.geometry → Stretch start.disk mid.disk (Behind start) → Stretch mid.disk new.disk (Behind mid) → Stretch start.disk new.disk (Behind start)
behind_then start mid new same so_far more =
    stretch_then (Behind start) start.disk mid.disk new.disk so_far
    (stretch_honest (Behind mid) (Behind start) mid.disk new.disk
    (λ honest content from.
    let earlier = at_exit (Behind start) start.disk mid.disk so_far (honest_before start.disk mid.disk so_far.keeps honest) from.before from.image in
    record {
      before = earlier.before;
      image = earlier.image;
      related = λ at n far. subst (λ (g : Geometry). SameBehind g from.before content) same from.related at n far ∙ earlier.related at n far;
    })
    more)

-- before the first step
pub leaves_at_first : (start : StateView) → StepLeaves start start → RunLeaves start (start.pending ++ []) start
leaves_at_first start stays = record {
  committed = first;
  moments = stretch_here (OpensToPrefix start (start.pending ++ []) 0) start.disk (λ honest image left. less_prefix start (start.pending ++ []) 0 0 (omega arith) image (to_prefix start start (start.pending ++ []) first image (stays.exit honest image left)));
  exit = exit_so start start (start.pending ++ []) first stays.exit;
  geometry = refl;
  behind = stays.behind;
}
  where
    first : IsFrontCommitted start (start.pending ++ []) start
    first = record { done = 0; inside = omega arith; value = λ i. record { db = start.value.db; place = same i }; pending = sym (append-nil start.pending) }
      where
        same : start.value.place ≡ start.value.place + 0
        same = omega arith

-- what a run leaves after one more step
pub leaves_then : (start mid new : StateView) (order more : List Command) → RunLeaves start order mid → Moves more mid new → StepLeaves mid new → RunLeaves start (order ++ more) new
leaves_then start mid new order more so_far moves leaves = record {
  committed = after;
  moments =
      stretch_then (OpensToPrefix start (order ++ more) 0) start.disk mid.disk new.disk
      (stretch_weaker (OpensToPrefix start order 0) (OpensToPrefix start (order ++ more) 0) start.disk mid.disk (longer_prefix start order more 0) so_far.moments)
      (stretch_weaker (OpensAroundCall (config_of mid) (commit_state_of mid) (commit_state_of new)) (OpensToPrefix start (order ++ more) 0) mid.disk new.disk around leaves.moments);
  exit = exit_so start new (order ++ more) after leaves.exit;
  geometry = moves.geometry ∙ so_far.geometry;
  behind = behind_then start mid new so_far.geometry so_far.behind leaves.behind;
}
  where
    after : IsFrontCommitted start (order ++ more) new
    after = committed_then start mid order so_far.committed new more moves

    around : (image : List ℕ) → OpensAroundCall (config_of mid) (commit_state_of mid) (commit_state_of new) image → OpensToPrefix start (order ++ more) 0 image
    around image (inl opens) = longer_prefix start order more 0 image (less_prefix start order so_far.committed.done 0 (omega arith) image (to_prefix start mid order so_far.committed image opens))
    around image (inr opens) =
        less_prefix start (order ++ more) after.done 0 (omega arith) image
        (to_prefix start new (order ++ more) after image (record { kept = opens.kept; may = opens.may; inside = opens.inside; opens = record { opens = opens.opens.opens; since = opens.opens.since } }))
