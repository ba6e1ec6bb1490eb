-- Two servers, one after the other.
use Rattle.std.proofs.Common.{◌≡◌, ℕ, ◌+◌, ◌≤◌, List, [], ◌∷◌, ◌++◌, length, take, get_or, Some, slice_get, sym, ◌∙◌, ap, subst, arith, append_assoc, length-append}
use Rattle.std.specs.List.{AllByRecursion}
use mathlib.Core.List.{IsPrefix}
use Rattle.std.proofs.lemmas.List.{length-take-le, get_or_append_left, get_or-append-add}
use Rattle.std.proofs.lemmas.Option.{slice_get_within, slice_get-get_or, get_or_from_slice_get}
use Rattle.row_map.specs.Database.{RowView}
use Rattle.path_db.specs.declared.command.Command.{Command}
use Rattle.store_layout.specs.Opening.{StoreValue}
use Rattle.command_log.specs.declared.rule.Claim.{Claim}
use Rattle.prefix_recovery.specs.Survival.{IsAfterFront}
use Rattle.prefix_recovery.proofs.Fronts.{split, front_then, place_rises}
use Rattle.prefix_recovery.specs.servers.Survival.{Survives}
use Rattle.prefix_recovery.specs.servers.Composition.{claims_after, looked_after}

-- a list and another, at an index of the first and of the second
at_first : (front behind : List Command) (i : ℕ) (x : Command) → slice_get front i ≡ Some x → slice_get (front ++ behind) i ≡ Some x
at_first front behind i x at =
    let within = slice_get_within front i x at in
    slice_get-get_or (front ++ behind) i x (omega (arith, within, length-append front behind))
    ∙ ap (λ (y : Command). Some y) (get_or_append_left front behind x i within ∙ get_or_from_slice_get front i x x at)

at_second : (front behind : List Command) (n i : ℕ) (x : Command) → length front ≡ n → slice_get behind i ≡ Some x → slice_get (front ++ behind) (n + i) ≡ Some x
at_second front behind n i x long at =
    let within = slice_get_within behind i x at in
    slice_get-get_or (front ++ behind) (n + i) x (omega (arith, within, long, length-append front behind))
    ∙ ap (λ (y : Command). Some y)
    (ap (λ (m : ℕ). get_or (front ++ behind) (m + i) x) (sym long) ∙ get_or-append-add front behind i x ∙ get_or_from_slice_get behind i x x at)

abbrev HasIn : List Command → Claim → Type 0
HasIn list claim = slice_get list claim.index ≡ Some claim.command

module _ (front behind : List Command) (n : ℕ) (long : length front ≡ n) where
  later_claims : (claims : List Claim) → AllByRecursion (HasIn behind) claims → AllByRecursion (HasIn (front ++ behind)) (claims_after n claims)
  later_claims [] all = tt
  later_claims (claim ∷ claims) all = (at_second front behind n claim.index claim.command long all.0, later_claims claims all.1)

  pub both_claims : (claims more : List Claim) → AllByRecursion (HasIn front) claims → AllByRecursion (HasIn behind) more
      → AllByRecursion (HasIn (front ++ behind)) (claims ++ claims_after n more)
  both_claims [] more all others = later_claims more others
  both_claims (claim ∷ claims) more all others = (at_first front behind claim.index claim.command all.0, both_claims claims more all.1 others)

-- what begins a list begins more than the list
begins_first : (front behind list : List Command) → IsPrefix list front → IsPrefix list (front ++ behind)
begins_first front behind list a = (a.0 ++ behind, sym (append_assoc list a.0 behind) ∙ ap (λ (l : List Command). l ++ behind) a.1)

-- what begins a list, after others, begins that list after them
begins_second : (front behind list : List Command) → IsPrefix list behind → IsPrefix (front ++ list) (front ++ behind)
begins_second front behind list a = (a.0, append_assoc front list a.0 ∙ ap (λ (l : List Command). front ++ l) a.1)

module _ (front behind : List Command) where
  later_looks : (seen : List (List Command)) → AllByRecursion (λ list. IsPrefix list behind) seen → AllByRecursion (λ list. IsPrefix list (front ++ behind)) (looked_after front seen)
  later_looks [] all = tt
  later_looks (list ∷ seen) all = (begins_second front behind list all.0, later_looks seen all.1)

  pub both_looks : (looked seen : List (List Command)) → AllByRecursion (λ list. IsPrefix list front) looked → AllByRecursion (λ list. IsPrefix list behind) seen
      → AllByRecursion (λ list. IsPrefix list (front ++ behind)) (looked ++ looked_after front seen)
  both_looks [] seen all others = later_looks seen others
  both_looks (list ∷ looked) seen all others = (begins_first front behind list all.0, both_looks looked seen all.1 others)

module _ (start middle last : StoreValue (List RowView)) (order later : List Command) (claims more : List Claim) (looked seen : List (List Command))
    (first : Survives start order claims looked middle) (second : Survives middle later more seen last) where
  both : IsAfterFront start (take first.front.kept order ++ later) last
  both = front_then start middle last order later first.front second.front

  both_kept : both.kept ≡ first.front.kept + second.front.kept
  both_kept = omega (arith, both.place, first.front.place, second.front.place)

  both_is : take both.kept (take first.front.kept order ++ later) ≡ take first.front.kept order ++ take second.front.kept later
  both_is = ap (λ (n : ℕ). take n (take first.front.kept order ++ later)) both_kept ∙ split start middle last order later first.front second.front

  pub servers_joined : Survives start (take first.front.kept order ++ later) (claims ++ claims_after first.front.kept more)
      (looked ++ looked_after (take first.front.kept order) seen) last
  servers_joined = record {
    front = both;
    claimed =
        subst (λ (list : List Command). AllByRecursion (λ claim. slice_get list claim.index ≡ Some claim.command) (claims ++ claims_after first.front.kept more))
        (sym both_is)
        (both_claims (take first.front.kept order) (take second.front.kept later) first.front.kept (length-take-le first.front.kept order first.front.inside) claims more first.claimed second.claimed);
    shown =
        subst (λ (list : List Command). AllByRecursion (λ front. IsPrefix front list) (looked ++ looked_after (take first.front.kept order) seen))
        (sym both_is)
        (both_looks (take first.front.kept order) (take second.front.kept later) looked seen first.shown second.shown);
  }

  pub place_joined : middle.place ≤ last.place
  place_joined = place_rises start middle last order later first.front second.front
