-- What commands leave under a key that they do not name, and under one that they do.
use Rattle.std.proofs.Common.{◌≡◌, ℕ, Bool, true, false, not, List, [], ◌∷◌, ◌++◌, if◌then◌else◌, Some, None, refl, sym, ap, ◌∙◌}
use Rattle.std.specs.Prelude.{Option, map}
use Rattle.std.specs.Ordering.{is_eq}
use Rattle.std.proofs.lemmas.Bool.{false≢true}
use Rattle.path_db.specs.declared.command.Command.{Command}
use Rattle.path_db.specs.declared.command.Command.TheVariants.{Register, Purge, Remove}
use Rattle.row_map.specs.Database.{RowView, key, key_of, is_under}
use Rattle.row_map.specs.Put.{is_newer}
use Rattle.row_map.specs.Drops.{is_valid_beyond}
use Rattle.path_db.specs.CommandLaws.{left_under_all}
use Rattle.row_map.specs.Left.{winner, left_by_put, left_by_puts, kept_if}
use Rattle.ckpt_stream.specs.Merging.{order_of, keys_named_by, has_key, outlives}
use Rattle.ckpt_stream.proofs.Keys.{itself, IsOf, its_key}

-- ---- a key that is not named

-- none of both lists
neither : (b : Bool) (rest : Bool) → (if b then true else rest) ≡ false → (b ≡ false) × (rest ≡ false)
neither true rest e = absurd (false≢true (sym e))
neither false rest e = (refl, e)

none_of_both : (k : List ℕ) (ks ls : List (List ℕ)) → has_key (ks ++ ls) k ≡ false → (has_key ks k ≡ false) × (has_key ls k ≡ false)
none_of_both k [] ls e = (refl, e)
none_of_both k (l ∷ ks) ls e =
    let both = neither (is_eq (order_of k l)) (has_key (ks ++ ls) k) e in
    let rest = none_of_both k ks ls both.1 in
    (ap (λ (b : Bool). if b then true else has_key ks k) both.0 ∙ rest.0, rest.1)

puts_leave_it : (k : List ℕ) (found : Option RowView) (new : List RowView) → has_key (map key_of new) k ≡ false → left_by_puts k found new ≡ found
puts_leave_it k found [] none = refl
puts_leave_it k found (row ∷ new) none =
    let both = neither (is_eq (order_of k (key_of row))) (has_key (map key_of new) k) none in
    ap (λ (b : Bool). left_by_puts k (if b then Some (winner row found) else found) new) both.0 ∙ puts_leave_it k found new both.1

kept_twice : (b : Bool) (moment : ℕ) (commands : List Command) (found : RowView) → is_valid_beyond moment found ≡ b
    → kept_if (outlives commands) (if b then Some found else None) ≡ (if (if b then outlives commands found else false) then Some found else None)
kept_twice true moment commands found e = refl
kept_twice false moment commands found e = refl

purge_leaves_it : (moment : ℕ) (commands : List Command) (found : Option RowView)
    → kept_if (outlives commands) (kept_if (is_valid_beyond moment) found) ≡ kept_if (outlives (Purge moment ∷ commands)) found
purge_leaves_it moment commands None = refl
purge_leaves_it moment commands (Some row) = kept_twice (is_valid_beyond moment row) moment commands row refl

-- a row that is not under the key of a removal stays
another : (k l : List ℕ) (row : RowView) (b : Bool) → is_eq (order_of k l) ≡ false → is_under k row ≡ true → is_under l row ≡ b → b ≡ false
another k l row true other under e =
    absurd (false≢true (sym other ∙ ap (λ (m : List ℕ). is_eq (order_of k m)) (its_key l row e ∙ sym (its_key k row under)) ∙ itself k))
another k l row false other under e = refl

removal_leaves_it : (k l : List ℕ) (found : Option RowView) → is_eq (order_of k l) ≡ false → IsOf k found
    → kept_if (λ row. not (is_under l row)) found ≡ found
removal_leaves_it k l None other under = refl
removal_leaves_it k l (Some row) other under = ap (λ (b : Bool). if not b then Some row else None) (another k l row (is_under l row) other under refl)

all_kept : (found : Option RowView) → found ≡ kept_if (outlives []) found
all_kept None = refl
all_kept (Some row) = refl

pub unnamed : (k : List ℕ) (found : Option RowView) (commands : List Command) → IsOf k found → has_key (keys_named_by commands) k ≡ false
    → left_under_all k found commands ≡ kept_if (outlives commands) found
unnamed k found [] under none = all_kept found
unnamed k found (Register new ∷ commands) under none =
    let both = none_of_both k (map key_of new) (keys_named_by commands) none in
    ap (λ (f : Option RowView). left_under_all k f commands) (puts_leave_it k found new both.0) ∙ unnamed k found commands under both.1 ∙ same found
  where
    same : (f : Option RowView) → kept_if (outlives commands) f ≡ kept_if (outlives (Register new ∷ commands)) f
    same None = refl
    same (Some row) = refl
unnamed k found (Purge moment ∷ commands) under none =
    unnamed k (kept_if (is_valid_beyond moment) found) commands (still found under) none ∙ purge_leaves_it moment commands found
  where
    still_if : (b : Bool) (row : RowView) → is_under k row ≡ true → IsOf k (if b then Some row else None)
    still_if true row e = e
    still_if false row e = tt

    still : (f : Option RowView) → IsOf k f → IsOf k (kept_if (is_valid_beyond moment) f)
    still None e = tt
    still (Some row) e = still_if (is_valid_beyond moment row) row e
unnamed k found (Remove kind id ∷ commands) under none =
    let both = none_of_both k (key kind id ∷ []) (keys_named_by commands) none in
    let other = neither (is_eq (order_of k (key kind id))) false both.0 in
    ap (λ (f : Option RowView). left_under_all k f commands) (removal_leaves_it k (key kind id) found other.0 under) ∙ unnamed k found commands under both.1 ∙ same found
  where
    same : (f : Option RowView) → kept_if (outlives commands) f ≡ kept_if (outlives (Remove kind id ∷ commands)) f
    same None = refl
    same (Some row) = refl

-- ---- what is left under a key is under it

either_of : (b : Bool) (k : List ℕ) (row old : RowView) → is_under k row ≡ true → is_under k old ≡ true → is_under k (if b then row else old) ≡ true
either_of true k row old e f = e
either_of false k row old e f = f

winner_of : (k : List ℕ) (row : RowView) (found : Option RowView) → is_under k row ≡ true → IsOf k found → is_under k (winner row found) ≡ true
winner_of k row None e of = e
winner_of k row (Some old) e of = either_of (is_newer row old) k row old e of

put_of : (b : Bool) (k : List ℕ) (row : RowView) (found : Option RowView) → is_under k row ≡ b → IsOf k found → IsOf k (if b then Some (winner row found) else found)
put_of true k row found e of = winner_of k row found e of
put_of false k row found e of = of

puts_of : (k : List ℕ) (found : Option RowView) (new : List RowView) → IsOf k found → IsOf k (left_by_puts k found new)
puts_of k found [] of = of
puts_of k found (row ∷ new) of = puts_of k (left_by_put k found row) new (put_of (is_under k row) k row found refl of)

kept_of_if : (b : Bool) (k : List ℕ) (row : RowView) → is_under k row ≡ true → IsOf k (if b then Some row else None)
kept_of_if true k row e = e
kept_of_if false k row e = tt

kept_of : (p : RowView → Bool) (k : List ℕ) (found : Option RowView) → IsOf k found → IsOf k (kept_if p found)
kept_of p k None of = tt
kept_of p k (Some row) of = kept_of_if (p row) k row of

pub left_of_key : (k : List ℕ) (found : Option RowView) (commands : List Command) → IsOf k found → IsOf k (left_under_all k found commands)
left_of_key k found [] of = of
left_of_key k found (Register new ∷ commands) of = left_of_key k (left_by_puts k found new) commands (puts_of k found new of)
left_of_key k found (Purge moment ∷ commands) of = left_of_key k (kept_if (is_valid_beyond moment) found) commands (kept_of (is_valid_beyond moment) k found of)
left_of_key k found (Remove kind id ∷ commands) of =
    left_of_key k (kept_if (λ row. not (is_under (key kind id) row)) found) commands (kept_of (λ row. not (is_under (key kind id) row)) k found of)
