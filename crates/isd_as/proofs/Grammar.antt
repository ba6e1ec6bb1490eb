-- A text of the grammar denotes one ISD and one AS, and its separators cut it at one place.
use Rattle.std.proofs.Common.{◌≡◌, ℕ, ◌↔◌, List, [], ◌∷◌, ◌++◌, Option, None, Some, MatchOption, Result, Ok, Err, Bor, IsErrOf, refl, sym, ap, ◌∙◌, subst, inr, ⊎_elim, arith, append_assoc}
use Rattle.std.specs.Str.Parse.{AllDigits, IsNumeral, digits_value}
use Rattle.std.proofs.lemmas.Str.Pattern.{IsSplitOnceResult, split_after, split_parts}
use Rattle.isd_as.specs.declared.error.IaError.{IaError}
use Rattle.isd_as.specs.declared.error.IaError.TheVariants.{BadText, TooLarge}
use Rattle.isd_as.specs.declared.number.IsdAs.{IsdAs}
use Rattle.isd_as.specs.Reading.{ReadsIsdAs, ReadsAsNumber}
use Rattle.isd_as.specs.Text.{AreHexGroups, AsNumber, Decimal, Groups, FitsAs, IsAsText, IsDecimal, IsHexGroup, IsIsdAsText, IsLargeAs, IsTooLargeText, Says, as_number}
use Rattle.isd_as.proofs.Cuts.{cut_once, digits_lack, no_cut}
use Rattle.isd_as.proofs.SameNumber.{same_parts}

-- the two parts of a text, and the three groups of an AS, joined from the right
pub says_joined : {text : List ℕ} {isd : ℕ} {number : AsNumber} → (s : Says text isd number) → text ≡ s.front ++ 45 ∷ s.back
says_joined s = s.joined ∙ append_assoc s.front (45 ∷ []) s.back

pub groups_joined : {text : List ℕ} {high middle low : ℕ} → (g : AreHexGroups text high middle low) → text ≡ g.first ++ 58 ∷ (g.second ++ 58 ∷ g.third)
groups_joined g = g.joined ∙ simp append_assoc

-- the same groups, in hexadecimal or in decimal
groups_once : (text : List ℕ) (a b c x y z : ℕ) → AreHexGroups text a b c → AreHexGroups text x y z → Groups a b c ≡ Groups x y z
groups_once text a b c x y z g k =
    let outer = cut_once 16 58 g.first _ k.first _ (omega arith) g.first_says.numeral.1 k.first_says.numeral.1 (sym (groups_joined g) ∙ groups_joined k) in
    let inner = cut_once 16 58 g.second g.third k.second k.third (omega arith) g.second_says.numeral.1 k.second_says.numeral.1 outer.1 in
    let one : a ≡ x = sym g.first_says.number_is ∙ ap (digits_value 16) outer.0 ∙ k.first_says.number_is in
    let two : b ≡ y = sym g.second_says.number_is ∙ ap (digits_value 16) inner.0 ∙ k.second_says.number_is in
    let three : c ≡ z = sym g.third_says.number_is ∙ ap (digits_value 16) inner.1 ∙ k.third_says.number_is in
    cc

-- groups of hexadecimal digits are no decimal number
groups_or_decimal : (text : List ℕ) (n x y z : ℕ) → IsDecimal text n → AreHexGroups text x y z → ⊥
groups_or_decimal text n x y z d g = no_cut 10 58 g.first _ (omega arith) (subst (AllDigits 10) (groups_joined g) d.0.1)

pub as_once : (text : List ℕ) (m n : AsNumber) → IsAsText text m → IsAsText text n → m ≡ n
as_once text (Decimal m) (Decimal n) p q = ap Decimal (sym p.1 ∙ q.1)
as_once text (Decimal m) (Groups x y z) p q = absurd (groups_or_decimal text m x y z p q)
as_once text (Groups x y z) (Decimal m) p q = absurd (groups_or_decimal text m x y z q p)
as_once text (Groups a b c) (Groups x y z) p q = groups_once text a b c x y z p q

-- a text denotes one ISD and one AS
pub says_once : (text : List ℕ) (i j : ℕ) (m n : AsNumber) → Says text i m → Says text j n → (i ≡ j) × (m ≡ n)
says_once text i j m n s t =
    let cut = cut_once 10 45 s.front s.back t.front t.back (omega arith) s.front_says.0.1 t.front_says.0.1 (sym (says_joined s) ∙ says_joined t) in (
      sym s.front_says.1 ∙ ap (digits_value 10) cut.0 ∙ t.front_says.1,
      as_once t.back m n (subst (λ (b : List ℕ). IsAsText b m) cut.1 s.back_says) t.back_says,
    )

-- a text of the grammar, cut at its first dash, is an ISD and an AS
pub says_cut : (text : List ℕ) (isd : ℕ) (number : AsNumber) (r : Option (Bor (List ℕ) × Bor (List ℕ))) → IsSplitOnceResult 45 text r → Says text isd number → MatchOption r ⊥ (λ x. IsDecimal x.0.now isd × IsAsText x.1.now number)
says_cut text isd number r h s =
    parts r (split_after 45 text s.front s.back r h (omega arith) (says_joined s) (digits_lack 10 45 s.front (omega arith) s.front_says.0.1))
  where
    parts : (r : Option (Bor (List ℕ) × Bor (List ℕ))) → MatchOption r ⊥ (λ x. (x.0.now ≡ s.front) × (x.1.now ≡ s.back)) → MatchOption r ⊥ (λ x. IsDecimal x.0.now isd × IsAsText x.1.now number)
    parts None p = p
    parts (Some x) p = (subst (λ (f : List ℕ). IsDecimal f isd) (sym p.0) s.front_says, subst (λ (b : List ℕ). IsAsText b number) (sym p.1) s.back_says)

-- two groups joined by a colon, as they follow the first
pub record AreTwoGroups (text : List ℕ) (middle low : ℕ) : Type 0 where
  pub second : List ℕ
  pub third : List ℕ
  pub joined : text ≡ second ++ 58 ∷ third
  pub second_says : IsHexGroup second middle
  pub third_says : IsHexGroup third low

-- a text of groups, cut at its first colon, is one group and two groups
pub groups_cut : (text : List ℕ) (high middle low : ℕ) (r : Option (Bor (List ℕ) × Bor (List ℕ))) → IsSplitOnceResult 58 text r → AreHexGroups text high middle low → MatchOption r ⊥ (λ x. IsHexGroup x.0.now high × AreTwoGroups x.1.now middle low)
groups_cut text high middle low r h g =
    parts r (split_after 58 text g.first _ r h (omega arith) (groups_joined g) (digits_lack 16 58 g.first (omega arith) g.first_says.numeral.1))
  where
    parts : (r : Option (Bor (List ℕ) × Bor (List ℕ))) → MatchOption r ⊥ (λ x. (x.0.now ≡ g.first) × (x.1.now ≡ g.second ++ 58 ∷ g.third)) → MatchOption r ⊥ (λ x. IsHexGroup x.0.now high × AreTwoGroups x.1.now middle low)
    parts None p = p
    parts (Some x) p = (
      subst (λ (f : List ℕ). IsHexGroup f high) (sym p.0) g.first_says,
      record { second = g.second; third = g.third; joined = p.1; second_says = g.second_says; third_says = g.third_says },
    )

pub two_groups_cut : (text : List ℕ) (middle low : ℕ) (r : Option (Bor (List ℕ) × Bor (List ℕ))) → IsSplitOnceResult 58 text r → AreTwoGroups text middle low → MatchOption r ⊥ (λ x. IsHexGroup x.0.now middle × IsHexGroup x.1.now low)
two_groups_cut text middle low r h g =
    parts r (split_after 58 text g.second g.third r h (omega arith) g.joined (digits_lack 16 58 g.second (omega arith) g.second_says.numeral.1))
  where
    parts : (r : Option (Bor (List ℕ) × Bor (List ℕ))) → MatchOption r ⊥ (λ x. (x.0.now ≡ g.second) × (x.1.now ≡ g.third)) → MatchOption r ⊥ (λ x. IsHexGroup x.0.now middle × IsHexGroup x.1.now low)
    parts None p = p
    parts (Some x) p = (subst (λ (f : List ℕ). IsHexGroup f middle) (sym p.0) g.second_says, subst (λ (b : List ℕ). IsHexGroup b low) (sym p.1) g.third_says)

-- the parts before and after the first dash, put together again
pub says_from : (text front back : List ℕ) (isd : ℕ) (number : AsNumber) → text ≡ front ++ 45 ∷ back → IsDecimal front isd → IsAsText back number → Says text isd number
says_from text front back isd number e f b = record { front = front; back = back; joined = e ∙ sym (append_assoc front (45 ∷ []) back); front_says = f; back_says = b }

-- a text whose ISD is decimal fails as its AS does
pub as_fails : (text : List ℕ) (front back : Bor (List ℕ)) (e : IaError) → IsSplitOnceResult 45 text (Some (front, back)) → IsNumeral 10 front.now → ReadsAsNumber back.now (Err e) → ReadsIsdAs text (Err e)
as_fails text front back TooLarge h d r =
    record {
      isd = digits_value 10 front.now;
      number = r.number;
      says = says_from text front.now back.now _ r.number (split_parts 45 text (Some (front, back)) h (omega arith)).0 (d, refl) r.says;
      large = inr r.large;
    }
as_fails text front back BadText h d r = λ g. r g.number (says_cut text g.isd g.number (Some (front, back)) h g.says).1

-- a text is read as one ISD-AS at most
pub reads_only : (text : List ℕ) (r : Result IsdAs IaError) (ia : IsdAs) → ReadsIsdAs text r → IsIsdAsText text ia → r ≡ Ok ia
reads_only text (Ok found) ia h k =
    let once = says_once text found.isd ia.isd h.number k.number h.says k.says in
    ap Ok (same_parts found ia once.0 (h.asn ∙ ap as_number once.1 ∙ sym k.asn))
reads_only text (Err TooLarge) ia h k =
    let once = says_once text h.isd ia.isd h.number k.number h.says k.says in
    absurd (⊎_elim (λ large. omega (arith, once.0, k.isd)) (λ large. fits_or_large k.number k.fits (subst IsLargeAs once.1 large)) h.large)
  where
    fits_or_large : (n : AsNumber) → FitsAs n → IsLargeAs n → ⊥
    fits_or_large (Decimal n) p q = omega arith
    fits_or_large (Groups x y z) p q = q
reads_only text (Err BadText) ia h k = absurd (h (record { isd = ia.isd; number = k.number; says = k.says }))

pub too_large_only : (text : List ℕ) (r : Result IsdAs IaError) → ReadsIsdAs text r → (IsErrOf r TooLarge) ↔ IsTooLargeText text
too_large_only text (Ok found) h = (λ e. absurd cc, λ large. let same : ◌≡◌ {A = Result IsdAs IaError} (Err TooLarge) (Ok found) = reads_only text (Err TooLarge) found large h in absurd cc)
too_large_only text (Err TooLarge) h = (λ _. h, λ _. refl)
too_large_only text (Err BadText) h = (λ e. absurd cc, λ large. absurd (h (record { isd = large.isd; number = large.number; says = large.says })))
