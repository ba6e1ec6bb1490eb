use Rattle.std.proofs.Common.{◌≡◌, Bool, ◌||◌, List, [], ◌∷◌, map, eqb, refl, ap, ◌∙◌, sym, rules, tests}
use Rattle.std.specs.List.{list_any}
use Rattle.std.proofs.lemmas.Iterator.{YieldsList-from_slice}
use Rattle.std.proofs.lemmas.Iterator.Search.{any_from_yields_List}
use Rattle.isd_as.specs.IsdAs.{isd_as_number}
use Rattle.seg_core.specs.declared.entry.Entry.{Entry}
use Rattle.seg_core.specs.EntryView.{entry_view}
use Rattle.seg_core.proofs.path.stands_in.Goals as goal

-- A test of mapped values is a test of the values before the map.
list_any-map : {A B : Type 0} (p : B → Bool) (f : A → B) (xs : List A) → list_any p (map f xs) ≡ list_any (λ x. p (f x)) xs
list_any-map p f [] = refl
list_any-map p f (x ∷ xs) = ap (λ b. p (f x) || b) (list_any-map p f xs)

pub returns : goal.returns
returns c =
    let by_call = any_from_yields_List (λ (e : Entry). eqb (isd_as_number e.ia) (isd_as_number c.args.ia)) _ _ c.any.result c.any.ensures.ran (YieldsList-from_slice c.args.entries.now (cc)) (λ x b q k. search (rules, tests)) in
    by_call ∙ sym (list_any-map (λ f. eqb f.ia (isd_as_number c.args.ia)) entry_view c.args.entries.now)
