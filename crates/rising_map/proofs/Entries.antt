-- The entries in slots: looked up, put and taken out among slots below a number and slots above it.
use Rattle.std.proofs.Common.{◌≡◌, ℕ, ◌<◌, List, [], ◌∷◌, ◌++◌, Option, Some, None, Bool, true, false, cond, refl, sym, ap, ◌∙◌, arith}
use Rattle.std.specs.declared.cmp.Ordering.{Ordering}
use Rattle.std.specs.declared.cmp.Ordering.TheVariants.{Less, Equal, Greater}
use Rattle.std.specs.Ordering.{nat_cmp, is_eq, match_ordering, MatchOrdering}
use Rattle.std.specs.Cmp.{ranks}
use Rattle.std.specs.List.{AllByRecursion}
use Rattle.std.specs.BTreeMap.{insert_entry, is_at}
use Rattle.std.specs.Map.{lookup, remove_entry}
use Rattle.rising_map.specs.declared.slots.Slot.{Slot}
use Rattle.rising_map.specs.Slots.{entries_of, with_entry}

less_by : (o : Ordering) (n m : ℕ) → MatchOrdering o (n < m) (n ≡ m) (m < n) → n < m → o ≡ Less
less_by Less n m says below = refl
less_by Equal n m says below = absurd (omega (arith, says, below))
less_by Greater n m says below = absurd (omega (arith, says, below))

pub less : (n m : ℕ) → n < m → nat_cmp n m ≡ Less
less n m below = less_by (nat_cmp n m) n m (ranks n m) below

greater_by : (o : Ordering) (n m : ℕ) → MatchOrdering o (n < m) (n ≡ m) (m < n) → m < n → o ≡ Greater
greater_by Less n m says above = absurd (omega (arith, says, above))
greater_by Equal n m says above = absurd (omega (arith, says, above))
greater_by Greater n m says above = refl

pub greater : (n m : ℕ) → m < n → nat_cmp n m ≡ Greater
greater n m above = greater_by (nat_cmp n m) n m (ranks n m) above

equal_by : (o : Ordering) (n m : ℕ) → MatchOrdering o (n < m) (n ≡ m) (m < n) → m ≡ n → o ≡ Equal
equal_by Less n m says same = absurd (omega (arith, says, same))
equal_by Equal n m says same = refl
equal_by Greater n m says same = absurd (omega (arith, says, same))

pub equal : (n m : ℕ) → m ≡ n → nat_cmp n m ≡ Equal
equal n m same = equal_by (nat_cmp n m) n m (ranks n m) same

module _ {V : Type 0} (n : ℕ) where
  abbrev found : List (ℕ × V) → Option V
  found entries = lookup (is_at (nat_cmp n)) entries

  abbrev taken : List (ℕ × V) → List (ℕ × V)
  taken entries = remove_entry (is_at (nat_cmp n)) entries

  abbrev put : V → List (ℕ × V) → List (ℕ × V)
  put value entries = insert_entry nat_cmp entries n value

  -- past an entry below the number
  found_past : (m : ℕ) (value : Option V) (entries : List (ℕ × V)) → m < n → found (with_entry m value entries) ≡ found entries
  found_past m None entries below = refl
  found_past m (Some v) entries below = ap (λ o. cond (is_eq o) (Some v) (found entries)) (greater n m below)

  taken_past : (m : ℕ) (value : Option V) (entries : List (ℕ × V)) → m < n → taken (with_entry m value entries) ≡ with_entry m value (taken entries)
  taken_past m None entries below = refl
  taken_past m (Some v) entries below = ap (λ o. cond (is_eq o) entries ((m, v) ∷ taken entries)) (greater n m below)

  put_past : (m : ℕ) (value : Option V) (w : V) (entries : List (ℕ × V)) → m < n → put w (with_entry m value entries) ≡ with_entry m value (put w entries)
  put_past m None w entries below = refl
  put_past m (Some v) w entries below = ap (λ o. match_ordering o ((n, w) ∷ (m, v) ∷ entries) ((m, w) ∷ entries) ((m, v) ∷ put w entries)) (greater n m below)

  pub found_behind : (below above : List (Slot V)) → AllByRecursion (λ s. s.number < n) below → found (entries_of (below ++ above)) ≡ found (entries_of above)
  found_behind [] above all = refl
  found_behind (s ∷ below) above all = found_past s.number s.value (entries_of (below ++ above)) all.0 ∙ found_behind below above all.1

  pub taken_behind : (below above new : List (Slot V)) → AllByRecursion (λ s. s.number < n) below → taken (entries_of above) ≡ entries_of new
      → taken (entries_of (below ++ above)) ≡ entries_of (below ++ new)
  taken_behind [] above new all behind = behind
  taken_behind (s ∷ below) above new all behind =
      taken_past s.number s.value (entries_of (below ++ above)) all.0 ∙ ap (with_entry s.number s.value) (taken_behind below above new all.1 behind)

  pub put_behind : (w : V) (below above new : List (Slot V)) → AllByRecursion (λ s. s.number < n) below → put w (entries_of above) ≡ entries_of new
      → put w (entries_of (below ++ above)) ≡ entries_of (below ++ new)
  put_behind w [] above new all behind = behind
  put_behind w (s ∷ below) above new all behind =
      put_past s.number s.value w (entries_of (below ++ above)) all.0 ∙ ap (with_entry s.number s.value) (put_behind w below above new all.1 behind)

  -- before entries above the number
  found_before : (m : ℕ) (value : Option V) (entries : List (ℕ × V)) → n < m → found entries ≡ None → found (with_entry m value entries) ≡ None
  found_before m None entries above none = none
  found_before m (Some v) entries above none = ap (λ o. cond (is_eq o) (Some v) (found entries)) (less n m above) ∙ none

  pub not_found : (above : List (Slot V)) → AllByRecursion (λ s. n < s.number) above → found (entries_of above) ≡ None
  not_found [] all = refl
  not_found (s ∷ above) all = found_before s.number s.value (entries_of above) all.0 (not_found above all.1)

  put_before : (m : ℕ) (value : Option V) (w : V) (entries : List (ℕ × V)) → n < m → put w entries ≡ (n, w) ∷ entries → put w (with_entry m value entries) ≡ (n, w) ∷ with_entry m value entries
  put_before m None w entries above put_there = put_there
  put_before m (Some v) w entries above put_there = ap (λ o. match_ordering o ((n, w) ∷ (m, v) ∷ entries) ((m, w) ∷ entries) ((m, v) ∷ put w entries)) (less n m above)

  pub put_first : (w : V) (above : List (Slot V)) → AllByRecursion (λ s. n < s.number) above → put w (entries_of above) ≡ (n, w) ∷ entries_of above
  put_first w [] all = refl
  put_first w (s ∷ above) all = put_before s.number s.value w (entries_of above) all.0 (put_first w above all.1)

  -- at a slot of the number, with entries above it behind
  pub found_here : (m : ℕ) (value : Option V) (entries : List (ℕ × V)) → m ≡ n → found entries ≡ None → found (with_entry m value entries) ≡ value
  found_here m None entries same none = none
  found_here m (Some v) entries same none = ap (λ o. cond (is_eq o) (Some v) (found entries)) (equal n m same)

  -- what is not there cannot be taken out
  taken_by : (b : Bool) (e : ℕ × V) (entries : List (ℕ × V)) → cond b (Some e.1) (found entries) ≡ None → (found entries ≡ None → taken entries ≡ entries) → cond b entries (e ∷ taken entries) ≡ e ∷ entries
  taken_by true e entries none rest = absurd (cc (none))
  taken_by false e entries none rest = ap (λ l. e ∷ l) (rest none)

  pub none_taken : (entries : List (ℕ × V)) → found entries ≡ None → taken entries ≡ entries
  none_taken [] none = refl
  none_taken (e ∷ entries) none = taken_by (is_at (nat_cmp n) e.0) e entries none (none_taken entries)

  pub taken_here : (m : ℕ) (value : Option V) (entries : List (ℕ × V)) → m ≡ n → found entries ≡ None → taken (with_entry m value entries) ≡ entries
  taken_here m None entries same none = none_taken entries none
  taken_here m (Some v) entries same none = ap (λ o. cond (is_eq o) entries ((m, v) ∷ taken entries)) (equal n m same)

  pub put_here : (m : ℕ) (value : Option V) (w : V) (entries : List (ℕ × V)) → m ≡ n → put w entries ≡ (n, w) ∷ entries → put w (with_entry m value entries) ≡ (m, w) ∷ entries
  put_here m None w entries same put_there = put_there ∙ ap (λ k. (k, w) ∷ entries) (sym same)
  put_here m (Some v) w entries same put_there = ap (λ o. match_ordering o ((n, w) ∷ (m, v) ∷ entries) ((m, w) ∷ entries) ((m, v) ∷ put w entries)) (equal n m same)
