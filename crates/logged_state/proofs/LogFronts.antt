-- An image that opens to a front of some commands.
use Rattle.std.proofs.Common.{◌≡◌, ℕ, ◌≤◌, List, ◌++◌, sym, subst, arith, length-append}
use Rattle.std.proofs.lemmas.List.{take-append-le}
use Rattle.row_map.specs.Database.{RowView}
use Rattle.path_db.specs.declared.command.Command.{Command}
use Rattle.store_layout.specs.Opening.{StoreValue, OpensTo}
use Rattle.store_layout.specs.StoreValues.{value_after}
use Rattle.store_layout.specs.Limits.{latest}
use Rattle.store_open.specs.PathStores.{store_format}
use Rattle.logged_state.specs.Left.{OpensToFrontOf}

-- a front that has many commands has few
pub front_of_fewer : (opening : StoreValue (List RowView)) (commands : List Command) (least less : ℕ) → less ≤ least → (image : List ℕ) → OpensToFrontOf opening commands least image → OpensToFrontOf opening commands less image
front_of_fewer opening commands least less below image opens =
    let enough = opens.enough in record { count = opens.count; enough = omega (arith, below, enough); inside = opens.inside; opens = opens.opens }

-- a front of a list is one of a longer list
pub front_of_longer : (opening : StoreValue (List RowView)) (commands more all : List Command) (least : ℕ) → all ≡ commands ++ more → (image : List ℕ) → OpensToFrontOf opening commands least image → OpensToFrontOf opening all least image
front_of_longer opening commands more all least is image opens =
    let inside = opens.inside in
    subst (λ (l : List Command). OpensToFrontOf opening l least image) (sym is)
    (record {
      count = opens.count;
      enough = opens.enough;
      inside = omega (arith, inside, length-append commands more);
      opens = subst (λ (l : List Command). OpensTo store_format latest image (value_after store_format opening l)) (sym (take-append-le opens.count commands more inside)) opens.opens;
    })
