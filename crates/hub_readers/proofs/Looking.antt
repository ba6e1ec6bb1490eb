-- Looks are fronts of the longest one.
use Rattle.std.proofs.Common.{List, [], ◌∷◌, ◌++◌}
use Rattle.std.specs.List.{AllByRecursion}
use mathlib.Core.List.{IsPrefix}
use Rattle.log_history.proofs.Fronts.{prefix_trans}
use Rattle.path_db.specs.declared.command.Command.{Command}

abbrev pub AreFronts : List (List Command) → List Command → Type 0
AreFronts fronts all = AllByRecursion (λ front. IsPrefix front all) fronts

-- fronts of a front are fronts
pub fronts_of_more : (fronts : List (List Command)) (one two : List Command) → AreFronts fronts one → IsPrefix one two → AreFronts fronts two
fronts_of_more [] one two all more = tt
fronts_of_more (front ∷ fronts) one two all more = (prefix_trans front one two all.0 more, fronts_of_more fronts one two all.1 more)

-- one more front
pub one_more_front : (fronts : List (List Command)) (front all : List Command) → AreFronts fronts all → IsPrefix front all → AreFronts (fronts ++ front ∷ []) all
one_more_front [] front all h is = (is, tt)
one_more_front (first ∷ fronts) front all h is = (h.0, one_more_front fronts front all h.1 is)
