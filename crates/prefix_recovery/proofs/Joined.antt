-- What stops leave of two runs, one after the other.
use Rattle.std.proofs.Common.{◌≡◌, ℕ, ◌+◌, ◌-◌, ◌≤◌, List, ◌++◌, length, take, drop, refl, sym, ◌∙◌, ap, subst, arith, length-append}
use Rattle.std.proofs.lemmas.List.{take-append-le, drop-append-le, drop-drop, length-take-le}
use Rattle.row_map.specs.Database.{RowView}
use Rattle.path_db.specs.declared.command.Command.{Command}
use Rattle.sector_dev.proofs.Stretches.{stretch_weaker, stretch_then, stretch_here}
use Rattle.store_layout.specs.Opening.{StoreValue, OpensTo}
use Rattle.store_layout.specs.StoreValues.{value_after}
use Rattle.store_layout.specs.Limits.{latest}
use Rattle.store_open.specs.PathStores.{store_format}
use Rattle.group_core.specs.StateView.{StateView}
use Rattle.group_recovery.specs.RunLeaves.{IsFrontCommitted, OpensToPrefix, RunLeaves}
use Rattle.group_recovery.proofs.Prefix.{length_drop, then_front, less_prefix, longer_prefix, Behind, behind_then}
use Rattle.prefix_recovery.proofs.Fronts.{none_after}

module _ (a b : StateView) (o more : List Command) (first : IsFrontCommitted a o b) where
  -- what is pending in the middle, with what is accepted later, is the rest of the whole order
  rest : b.pending ++ more ≡ drop first.done (o ++ more)
  rest = ap (λ (l : List Command). l ++ more) first.pending ∙ sym (drop-append-le first.done o more first.inside)

  within : first.done ≤ length (o ++ more)
  within = omega (arith, first.inside, length-append o more)

  long : length (b.pending ++ more) + first.done ≡ length (o ++ more)
  long = ap (λ (l : List Command). length l + first.done) rest ∙ length_drop first.done (o ++ more) within

  value : b.value ≡ value_after store_format a.value (take first.done (o ++ more))
  value = first.value ∙ ap (λ (l : List Command). value_after store_format a.value l) (sym (take-append-le first.done o more first.inside))

  -- a front of that rest is a front of the whole order
  front_from : (n : ℕ) → value_after store_format b.value (take n (b.pending ++ more)) ≡ value_after store_format a.value (take (first.done + n) (o ++ more))
  front_from n = (λ i. value_after store_format (value i) (take n (rest i))) ∙ then_front a.value (o ++ more) first.done n

  pub committed_joined : (c : StateView) → IsFrontCommitted b (b.pending ++ more) c → IsFrontCommitted a (o ++ more) c
  committed_joined c second = record {
    done = first.done + second.done;
    inside = omega (arith, long, second.inside);
    value = second.value ∙ front_from second.done;
    pending = second.pending ∙ ap (λ (l : List Command). drop second.done l) rest ∙ drop-drop second.done first.done (o ++ more);
  }

  pub prefix_joined : (least : ℕ) (image : List ℕ) → OpensToPrefix b (b.pending ++ more) least image → OpensToPrefix a (o ++ more) (first.done + least) image
  prefix_joined least image opens = record {
    kept = first.done + opens.kept;
    enough = omega (arith, opens.enough);
    inside = omega (arith, long, opens.inside);
    opens = subst (λ (v : StoreValue (List RowView)). OpensTo store_format latest image v) (front_from opens.kept) opens.opens;
  }

  place_joined : b.value.place ≡ a.value.place + first.done
  place_joined = ap (λ (v : StoreValue (List RowView)). v.place) first.value ∙ ap (λ (n : ℕ). a.value.place + n) (length-take-le first.done o first.inside)

pub leaves_joined : (a b c : StateView) (o more : List Command) → RunLeaves a o b → RunLeaves b (b.pending ++ more) c → RunLeaves a (o ++ more) c
leaves_joined a b c o more first second = record {
  committed = committed_joined a b o more first.committed c second.committed;
  moments =
      stretch_then (OpensToPrefix a (o ++ more) 0) a.disk b.disk c.disk
      (stretch_weaker (OpensToPrefix a o 0) (OpensToPrefix a (o ++ more) 0) a.disk b.disk (longer_prefix a o more 0) first.moments)
      (stretch_weaker (OpensToPrefix b (b.pending ++ more) 0) (OpensToPrefix a (o ++ more) 0) b.disk c.disk
      (λ image opens. less_prefix a (o ++ more) (first.committed.done + 0) 0 (omega arith) image (prefix_joined a b o more first.committed 0 image opens))
      second.moments);
  exit = λ honest image left.
      less_prefix a (o ++ more) (first.committed.done + (c.value.place - b.value.place)) (c.value.place - a.value.place)
      (omega (arith, place_joined a b o more first.committed)) image
      (prefix_joined a b o more first.committed (c.value.place - b.value.place) image (second.exit honest image left));
  geometry = second.geometry ∙ first.geometry;
  behind = behind_then a b c first.geometry first.behind second.behind;
}

-- what a stop leaves of the state at the end of a run
module _ (a b : StateView) (o : List Command) (leaves : RunLeaves a o b) where
  abbrev done : ℕ
  done = leaves.committed.done

  -- a front of the order that has all that is committed is a front of what is pending
  shorter : (kept : ℕ) → done ≤ kept → value_after store_format a.value (take kept o) ≡ value_after store_format b.value (take (kept - done) b.pending)
  shorter kept enough =
      ap (λ (n : ℕ). value_after store_format a.value (take n o)) (omega (arith, enough))
      ∙ sym (then_front a.value o done (kept - done))
      ∙ (λ i. value_after store_format (sym leaves.committed.value i) (take (kept - done) (sym leaves.committed.pending i)))

  place_here : b.value.place ≡ a.value.place + done
  place_here = ap (λ (v : StoreValue (List RowView)). v.place) leaves.committed.value ∙ ap (λ (n : ℕ). a.value.place + n) (length-take-le done o leaves.committed.inside)

  pending_long : length b.pending + done ≡ length o
  pending_long = ap (λ (l : List Command). length l + done) leaves.committed.pending ∙ length_drop done o leaves.committed.inside

  opens_here : (image : List ℕ) → OpensToPrefix a o (b.value.place - a.value.place) image → OpensToPrefix b b.pending 0 image
  opens_here image opens =
      let enough : done ≤ opens.kept = omega (arith, place_here, opens.enough) in
      record {
        kept = opens.kept - done;
        enough = omega arith;
        inside = omega (arith, pending_long, opens.inside);
        opens = subst (λ (v : StoreValue (List RowView)). OpensTo store_format latest image v) (shorter opens.kept enough) opens.opens;
      }

  pub leaves_here : RunLeaves b b.pending b
  leaves_here = record {
    committed = record { done = 0; inside = omega arith; value = none_after b.value; pending = refl };
    moments = stretch_here (OpensToPrefix b b.pending 0) b.disk (λ honest image left. opens_here image (leaves.exit honest image left));
    exit = λ honest image left.
        less_prefix b b.pending 0 (b.value.place - b.value.place) (omega arith) image (opens_here image (leaves.exit honest image left));
    geometry = refl;
    behind = stretch_here (Behind b) b.disk (λ honest image left. record { before = image; image = left; related = λ at n far. refl });
  }
