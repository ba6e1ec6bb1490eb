-- Bounds that are lowered for one row after the other: for `expiry_bounds`.
use Rattle.std.proofs.Common.{◌≡◌, List, [], ◌∷◌, ◌++◌, refl, sym, ap, ◌∙◌, subst}
use Rattle.std.specs.List.{AllByRecursion}
use Rattle.std.proofs.lemmas.List.{append_assoc}
use Rattle.row_map.specs.declared.expiry_bounds.ExpiryBounds.{ExpiryBounds}
use Rattle.row_map.specs.Database.{RowView}
use Rattle.row_map.specs.Buckets.{IsBoundedBy}
use Rattle.row_map.proofs.Bucketed.{all_implied}
use Rattle.row_map.proofs.Purged.{last_good, append_none}

-- the first ones of the rows are bounded, and the others are left
pub record HasLowered (all left : List RowView) (bounds : ExpiryBounds) : Type 0 where
  pub front : List RowView
  pub split : all ≡ front ++ left
  pub good : AllByRecursion (IsBoundedBy bounds) front

pub lowering_begins : (all : List RowView) (bounds : ExpiryBounds) → HasLowered all all bounds
lowering_begins all bounds = record { front = []; split = refl; good = tt }

pub lowering_goes_on : (all left : List RowView) (row : RowView) (bounds lower : ExpiryBounds) → ((r : RowView) → IsBoundedBy bounds r → IsBoundedBy lower r) → IsBoundedBy lower row
    → HasLowered all (row ∷ left) bounds → HasLowered all left lower
lowering_goes_on all left row bounds lower kept one lowered = record {
  front = lowered.front ++ row ∷ [];
  split = lowered.split ∙ sym (append_assoc lowered.front (row ∷ []) left);
  good = last_good (IsBoundedBy lower) lowered.front row (all_implied (IsBoundedBy bounds) (IsBoundedBy lower) lowered.front kept lowered.good) one;
}

pub lowering_ends : (all left : List RowView) (bounds : ExpiryBounds) → left ≡ [] → HasLowered all left bounds → AllByRecursion (IsBoundedBy bounds) all
lowering_ends all left bounds none lowered =
    subst (AllByRecursion (IsBoundedBy bounds)) (sym (lowered.split ∙ ap (λ l. lowered.front ++ l) none ∙ append_none lowered.front)) lowered.good
