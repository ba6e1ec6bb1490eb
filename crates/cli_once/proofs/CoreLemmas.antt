-- The texts of a list, one after the other: for `check_texts` and `cores_of`.
use Rattle.std.proofs.Common.{◌≡◌, ℕ, ◌+◌, ◌<◌, List, [], ◌∷◌, ◌++◌, length, take, drop, map, get_or, sym, ap, subst, ◌∙◌, take-append-drop}
use Rattle.std.proofs.lemmas.List.{map_push, drop_more}
use Rattle.isd_as.specs.declared.number.IsdAs.{IsdAs}
use Rattle.isd_as.specs.Text.{IsIsdAsText}
use Rattle.cli_once.specs.declared.error.SessionFault.{SessionFault}
use Rattle.cli_once.specs.declared.error.SessionFault.TheVariants as fault
use Rattle.cli_once.specs.Cores.{texts_of, AreCores, IsCoreList, RefusesText, RefusesTexts, RefusesList}

AreCores-push : (texts : List (List ℕ)) (cores : List IsdAs) (text : List ℕ) (core : IsdAs) → AreCores texts cores → IsIsdAsText text core → AreCores (texts ++ text ∷ []) (cores ++ core ∷ [])
AreCores-push [] [] text core p q = (q, tt)
AreCores-push [] (c ∷ cores) text core p q = absurd p
AreCores-push (t ∷ texts) [] text core p q = absurd p
AreCores-push (t ∷ texts) (c ∷ cores) text core p q = (p.0, AreCores-push texts cores text core p.1 q)

-- the texts so far, and one more
module _ {B : Type 0} (now : B → List ℕ) (items : List B) (x : B) where
  pub AreCores-more : (cores : List IsdAs) (core : IsdAs) → AreCores (map now items) cores → IsIsdAsText (now x) core → AreCores (map now (items ++ x ∷ [])) (cores ++ core ∷ [])
  AreCores-more cores core are is =
      subst (λ (ts : List (List ℕ)). AreCores ts (cores ++ core ∷ [])) (sym (map_push now items x)) (AreCores-push (map now items) cores (now x) core are is)

  pub IsCoreList-more : (core : IsdAs) → IsCoreList (map now items) → IsIsdAsText (now x) core → IsCoreList (map now (items ++ x ∷ []))
  IsCoreList-more core so_far is = record { cores = so_far.cores ++ core ∷ []; are = AreCores-more so_far.cores core so_far.are is }

  module _ (list : List ℕ) (front : map now items ≡ take (length items) (texts_of list)) (inside : length items < length (texts_of list)) (here : now x ≡ get_or (texts_of list) (length items) (now x)) where
    all_texts : texts_of list ≡ map now items ++ (now x ∷ drop (length items + 1) (texts_of list))
    all_texts =
        sym (take-append-drop (length items) (texts_of list))
        ∙ (λ i. sym front i ++ drop (length items) (texts_of list))
        ∙ ap (λ (ts : List (List ℕ)). map now items ++ ts)
        (drop_more (texts_of list) (length items) (now x) inside ∙ ap (λ (t : List ℕ). t ∷ drop (length items + 1) (texts_of list)) (sym here))

    -- the next text is refused
    pub RefusesTexts-here : (e : SessionFault) → IsCoreList (map now items) → RefusesText (now x) e → RefusesTexts list e
    RefusesTexts-here (fault.Text e) so_far refused = record {
      front = map now items;
      cores = so_far.cores;
      text = now x;
      rest = drop (length items + 1) (texts_of list);
      parts = all_texts;
      before = so_far.are;
      refused = refused;
    }
    RefusesTexts-here fault.Memory so_far refused = absurd refused
    RefusesTexts-here fault.Hex so_far refused = absurd refused
    RefusesTexts-here (fault.Frame e) so_far refused = absurd refused
    RefusesTexts-here fault.Output so_far refused = absurd refused

-- what is refused without memory is refused
pub RefusesList-from : (list : List ℕ) (e : SessionFault) → RefusesTexts list e → RefusesList list e
RefusesList-from list (fault.Text e) refused = refused
RefusesList-from list fault.Memory refused = absurd refused
RefusesList-from list fault.Hex refused = absurd refused
RefusesList-from list (fault.Frame e) refused = absurd refused
RefusesList-from list fault.Output refused = absurd refused
