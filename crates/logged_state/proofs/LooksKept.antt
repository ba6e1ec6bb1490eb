-- What was shown to sessions is kept.
use Rattle.std.proofs.Common.{◌≤◌, List, [], ◌∷◌, ◌++◌, length, take, ap, ◌∙◌, sym, arith, append_assoc, length-append, length-take}
use Rattle.std.specs.List.{AllByRecursion}
use mathlib.Core.List.{IsPrefix}
use Rattle.row_map.specs.Database.{RowView}
use Rattle.path_db.specs.declared.command.Command.{Command}
use Rattle.sector_dev.specs.Disk.{History}
use Rattle.store_layout.specs.Opening.{StoreValue}
use Rattle.command_log.specs.Log.{Log}
use Rattle.logged_state.specs.Kept.{AllKept, IsShownKept, AllShownKept}
use Rattle.logged_state.proofs.ClaimsKept.{front_kept}

-- a front of a front
front_of_front : (front shown all : List Command) → IsPrefix front shown → IsPrefix shown all → IsPrefix front all
front_of_front front shown all a b = (a.0 ++ b.0, sym (append_assoc front a.0 b.0) ∙ ap (λ (l : List Command). l ++ b.0) a.1 ∙ b.1)

-- it is no longer
front_is_short : (front all : List Command) → IsPrefix front all → length front ≤ length all
front_is_short front all a =
    let long = ap (λ (l : List Command). length l) a.1 in
    omega (arith, long, length-append front a.0)

module _ (opening : StoreValue (List RowView)) (log : Log) (history : History) (shown : List Command) (committed : IsPrefix shown (take log.committed log.commands)) (kept : AllKept opening log history) where
  shown_kept : (front : List Command) → IsPrefix front shown → IsShownKept opening log history front
  shown_kept front is =
      let all = front_of_front front shown (take log.committed log.commands) is committed in
      let short = front_is_short front (take log.committed log.commands) all in record {
        committed = all;
        kept = front_kept opening log history (length front) (omega (arith, short, length-take log.committed log.commands)) kept;
      }

  pub all_shown_kept : (fronts : List (List Command)) → AllByRecursion (λ front. IsPrefix front shown) fronts → AllShownKept opening log history fronts
  all_shown_kept [] is = tt
  all_shown_kept (front ∷ fronts) is = (shown_kept front is.0, all_shown_kept fronts is.1)
