-- Visits that begin and go on.
use Rattle.std.proofs.Common.{◌≡◌, ◌≤◌, ◌<◌, ◌-◌, inl, inr, ℕ, Bool, true, false, cond, List, [], ◌∷◌, ◌++◌, drop, length, length-append, ap, ◌∙◌, refl, sym, subst, arith}
use Rattle.std.specs.List.Retain.{RetainsInTurn}
use Rattle.std.specs.Bool.{OnTrue}
use Rattle.std.proofs.lemmas.List.{append-nil}
use Rattle.std.proofs.lemmas.List.Elements.{All-nil, All-cons}
use Rattle.status_page.specs.declared.request.Asked.{Asked}
use Rattle.status_server.specs.declared.visit.Visit.{Visit}
use Rattle.status_server.specs.Visits.{IsNew, newest, IsBegun, WentOn, AllWentOn}

-- as many visits as may be are all among the newest
all_newest : (most : ℕ) (visits : List Visit) → length visits ≤ most → visits ≡ newest most visits
all_newest most visits few = let none : length visits - most ≡ 0 = omega arith in rw none refl

pub none_begun : (most : ℕ) (old new : List Visit) → length old ≤ most → new ≡ old → IsBegun most old new
none_begun most old new few same =
    record { more = []; one = omega arith; begun = All-nil IsNew; kept = subst (λ visits. new ≡ newest most visits) (sym (append-nil old)) (subst (λ visits. visits ≡ newest most old) (sym same) (all_newest most old few)) }

pub one_begun : (most : ℕ) (old new : List Visit) (visit : Visit) → IsNew visit → new ≡ old ++ visit ∷ [] → length new ≤ most → IsBegun most old new
one_begun most old new visit is_new pushed few =
    record { more = visit ∷ []; one = omega arith; begun = All-cons IsNew visit [] is_new (All-nil IsNew); kept = subst (λ visits. new ≡ newest most visits) pushed (all_newest most new few) }

pub newest_begun : (most : ℕ) (old pushed new : List Visit) (visit : Visit) → IsNew visit → pushed ≡ old ++ visit ∷ [] → length old ≤ most → most < length pushed
    → new ≡ drop 1 pushed → IsBegun most old new
newest_begun most old pushed new visit is_new is few many removed =
    let over : length pushed - most ≡ 1 = omega (arith, ap length is ∙ length-append old (visit ∷ []), few, many) in
    record { more = visit ∷ []; one = omega arith; begun = All-cons IsNew visit [] is_new (All-nil IsNew); kept = subst (λ visits. new ≡ newest most visits) is (subst (λ count. new ≡ drop count pushed) (sym over) removed) }

went_by : (Answers : Asked → List ℕ → Type 0) (b : Bool) (x y : Visit) (xs ys zs : List Visit) → OnTrue b (WentOn Answers x y) → ys ≡ cond b (y ∷ zs) zs
    → AllWentOn Answers xs zs → AllWentOn Answers (x ∷ xs) ys
went_by Answers true x y xs ys zs went is rest = inr (y, zs, is, went, rest)
went_by Answers false x y xs ys zs went is rest = inl (subst (AllWentOn Answers xs) (sym is) rest)

-- a closure that each call leaves as it was makes a step of each visit
pub all_went_on : {S : Type 0} (R : S → Visit → Bool → S → Visit → Type 0) (Answers : Asked → List ℕ → Type 0) (s : S)
    → ((x : Visit) (b : Bool) (t : S) (y : Visit) → R s x b t y → OnTrue b (WentOn Answers x y) × (t ≡ s)) → (xs ys : List Visit) → RetainsInTurn R s xs ys
    → AllWentOn Answers xs ys
all_went_on R Answers s step [] ys ran = ran
all_went_on R Answers s step (x ∷ xs) ys ran =
    let one = step x ran.0 ran.1 ran.2 ran.3 in
    went_by Answers ran.0 x ran.2 xs ys ran.4 one.0 ran.6 (all_went_on R Answers s step xs ran.4 (subst (λ t. RetainsInTurn R t xs ran.4) one.1 ran.5))
