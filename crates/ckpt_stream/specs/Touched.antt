-- Keys in their order.
use Rattle.std.specs.Prelude.{◌≡◌, List, [], ◌∷◌, ◌++◌, ℕ, Bool, true, Option, Some, None, if◌then◌else◌}
use Rattle.std.specs.List.{AllByRecursion}
use Rattle.std.specs.List.Sorted.{IsSortedByKey}
use Rattle.std.specs.Ordering.{is_lt, is_le}
use Rattle.std.specs.declared.cmp.Ordering.TheVariants.{Less}
use Rattle.path_records.specs.declared.key.Key.{Key}
use Rattle.path_records.specs.Key.{key_bytes}
use Rattle.ckpt_stream.specs.Merging.{order_of, has_key, KeysRise}

-- No key is above the one after it.
abbrev pub IsKeyOrder : List Key → Type 0
IsKeyOrder keys = IsSortedByKey key_bytes order_of keys

-- A key is above the last one, where there is one.
abbrev pub is_key_above : Option (List ℕ) → List ℕ → Bool
is_key_above None k = true
is_key_above (Some last) k = is_lt (order_of last k)

-- The last key of a list.
abbrev pub last_key : List (List ℕ) → Option (List ℕ)
last_key [] = None
last_key (k ∷ []) = Some k
last_key (k ∷ l ∷ ks) = last_key (l ∷ ks)

-- The keys, and then one more where it is above the last of them.
abbrev pub with_above : List (List ℕ) → List ℕ → List (List ℕ)
with_above ks k = if is_key_above (last_key ks) k then ks ++ k ∷ [] else ks

-- No key of a list is above a key.
abbrev pub AreUpTo : List ℕ → List (List ℕ) → Type 0
AreUpTo k ks = AllByRecursion (λ l. is_le (order_of l k) ≡ true) ks

-- Each key of a list is above a key.
abbrev pub AreAbove : List ℕ → List (List ℕ) → Type 0
AreAbove k ks = AllByRecursion (λ l. order_of k l ≡ Less) ks

-- Keys are those of two lists, each once, in their order.
pub record IsUnion (before new keys : List (List ℕ)) : Type 0 where
  pub rise : KeysRise keys
  pub just : (k : List ℕ) → has_key keys k ≡ has_key (before ++ new) k
