-- What commands leave under keys, one command and one key after the other: for `settling` and `planner`.
use Rattle.std.proofs.Common.{◌≡◌, ℕ, zero, suc, ◌+◌, ◌<◌, ◌≤◌, Bool, true, false, not, cond, List, [], ◌∷◌, ◌++◌, length, drop, get_or, if◌then◌else◌, refl, sym, ap, ◌∙◌, subst, append_assoc, add-one, arith}
use Rattle.std.specs.Prelude.{Option, Some, map}
use Rattle.std.specs.List.{AllByRecursion, filter}
use Rattle.std.specs.Option.{option_map, option_to_list}
use Rattle.std.specs.Ordering.{is_eq, ordering_reverse}
use Rattle.std.specs.declared.cmp.Ordering.TheVariants.{Less}
use Rattle.std.proofs.lemmas.Cmp.{nat_list_cmp_total}
use Rattle.std.proofs.Math.Seq.{drop-cons}
use Rattle.path_db.specs.declared.command.Command.{Command}
use Rattle.path_db.specs.declared.command.Command.TheVariants.{Register, Remove}
use Rattle.row_map.specs.declared.row.Row.{Row}
use Rattle.row_map.specs.Database.{RowView, is_under, row_under}
use Rattle.row_map.specs.Put.{database_after_put, database_after_puts}
use Rattle.path_db.specs.Command.{database_after, database_after_all}
use Rattle.row_map.specs.Row.{row_view}
use Rattle.path_records.specs.declared.key.Key.{Key}
use Rattle.path_records.specs.Key.{key_bytes}
use Rattle.ckpt_stream.specs.Edits.{views_if_any, len_if_any, bytes_put, count_rows}
use Rattle.ckpt_stream.specs.Merging.{order_of, KeysRise}
use Rattle.ckpt_stream.proofs.Keys.{KeysAbove, its_key}
use Rattle.ckpt_stream.proofs.LeftRows.{all_folded, one_more}

-- ---- the rows under keys, registered one after the other

puts_more : (rows olds : List RowView) (row : RowView) → database_after_put (database_after_puts rows olds) row ≡ database_after_puts rows (olds ++ row ∷ [])
unfolding database_after_puts
puts_more rows [] row = refl
puts_more rows (old ∷ olds) row = puts_more (database_after_put rows old) olds row

pub no_olds : [] ≡ database_after [] (Register [])
unfolding database_after database_after_puts
no_olds = refl

pub one_old : (before after olds pushed : List RowView) (registration : List RowView) (row : RowView) → before ≡ database_after [] (Register olds)
    → registration ≡ pushed → pushed ≡ row ∷ [] → after ≡ database_after before (Register registration) → after ≡ database_after [] (Register (olds ++ row ∷ []))
unfolding database_after database_after_puts
one_old before after olds pushed registration row was same one is =
    is
    ∙ ap (λ (l : List RowView). database_after_puts before l) (same ∙ one)
    ∙ ap (λ (l : List RowView). database_after_put l row) was
    ∙ puts_more [] olds row

-- ---- one more command

pub split_more : (commands applied before after : List Command) (n : ℕ) (command : Command) → n < length before → command ≡ get_or before n command
    → drop (n + 1) after ≡ drop (n + 1) before → commands ≡ applied ++ drop n before → commands ≡ (applied ++ command ∷ []) ++ drop (n + 1) after
split_more commands applied before after n command lt is same was =
    was
    ∙ ap (λ (l : List Command). applied ++ l) (drop-cons before n command lt)
    ∙ ap (λ (x : Command). applied ++ x ∷ drop (suc n) before) (sym is)
    ∙ ap (λ (l : List Command). applied ++ command ∷ l) (ap (λ (m : ℕ). drop m before) (sym (add-one n)) ∙ sym same)
    ∙ sym (append_assoc applied (command ∷ []) (drop (n + 1) after))

pub all_and_one : {A : Type 0} (P : A → Type 0) (list : List A) (x : A) → AllByRecursion P list → P x → AllByRecursion P (list ++ x ∷ [])
all_and_one P [] x all holds = (holds, tt)
all_and_one P (y ∷ list) x all holds = (all.0, all_and_one P list x all.1 holds)

-- ---- one more key

pub bytes_more : (rows : List (Option Row)) (row : Option Row) → bytes_put (views_if_any (rows ++ row ∷ [])) ≡ bytes_put (views_if_any rows) + len_if_any (option_map row_view row)
bytes_more [] row = omega arith
bytes_more (first ∷ rows) row = omega (arith, bytes_more rows row)

pub count_more : (rows : List (Option Row)) (row : Option Row) → count_rows (views_if_any (rows ++ row ∷ [])) ≡ count_rows (views_if_any rows) + length (option_to_list (option_map row_view row))
count_more [] row = omega arith
count_more (first ∷ rows) row = omega (arith, count_more rows row)

not_under : (k l : List ℕ) (row : RowView) → order_of k l ≡ Less → is_under k row ≡ true → is_under l row ≡ false
not_under k l row below e =
    ap (λ (m : List ℕ). is_eq (order_of l m)) (sym (its_key k row e)) ∙ ap is_eq (nat_list_cmp_total.antisymm l k ∙ ap ordering_reverse below)

removed_first : (k l : List ℕ) (row : RowView) (rows left : List RowView) → order_of k l ≡ Less → (b : Bool) → is_under k row ≡ b → row_under l left ≡ row_under l rows
    → row_under l (cond (not b) (row ∷ left) left) ≡ row_under l (row ∷ rows)
removed_first k l row rows left below true e later = later ∙ sym (ap (λ (b : Bool). if b then Some row else row_under l rows) (not_under k l row below e))
removed_first k l row rows left below false e later = ap (λ (o : Option RowView). if is_under l row then Some row else o) later

removed_row : (k l : List ℕ) (rows : List RowView) → order_of k l ≡ Less → row_under l (filter (λ row. not (is_under k row)) rows) ≡ row_under l rows
removed_row k l [] below = refl
removed_row k l (row ∷ rows) below = removed_first k l row rows (filter (λ row. not (is_under k row)) rows) below (is_under k row) refl (removed_row k l rows below)

removed_rows : (k : List ℕ) (rows : List RowView) (ks : List (List ℕ)) → KeysAbove k ks
    → map (λ l. row_under l (filter (λ row. not (is_under k row)) rows)) ks ≡ map (λ l. row_under l rows) ks
removed_rows k rows [] above = refl
removed_rows k rows (l ∷ ks) above =
    ap (λ (o : Option RowView). o ∷ map (λ l. row_under l (filter (λ row. not (is_under k row)) rows)) ks) (removed_row k l rows above.0)
    ∙ ap (λ (os : List (Option RowView)). row_under l rows ∷ os) (removed_rows k rows ks above.1)

after_removal : (k : Key) (rows next : List RowView) (ks : List (List ℕ)) → next ≡ database_after rows (Remove k.kind k.id) → KeysAbove (key_bytes k) ks
    → map (λ l. row_under l next) ks ≡ map (λ l. row_under l rows) ks
unfolding database_after
after_removal k rows next ks is above = ap (λ (db : List RowView). map (λ l. row_under l db) ks) is ∙ removed_rows (key_bytes k) rows ks above

rise_drop : (n : ℕ) (keys : List Key) → KeysRise (map key_bytes keys) → KeysRise (map key_bytes (drop n keys))
rise_drop zero keys rise = rise
rise_drop (suc n) [] rise = tt
rise_drop (suc n) (k ∷ keys) rise = rise_drop n keys rise.1

above_next : (n : ℕ) (keys : List Key) (k : Key) → n < length keys → KeysRise (map key_bytes keys) → k ≡ get_or keys n k → KeysAbove (key_bytes k) (map key_bytes (drop (n + 1) keys))
above_next n keys k lt rise is =
    subst (λ (m : ℕ). KeysAbove (key_bytes k) (map key_bytes (drop m keys))) (sym (add-one n))
    (subst (λ (x : Key). KeysAbove (key_bytes x) (map key_bytes (drop (suc n) keys))) (sym is)
    (subst (λ (l : List Key). KeysRise (map key_bytes l)) (drop-cons keys n k lt) (rise_drop n keys rise)).0)

pub one_listed : (db next : List RowView) (keys : List Key) (k : Key) (commands : List Command) (at : ℕ) (rows new : List (Option Row)) (row : Option Row) (all : List (Option RowView))
    → KeysRise (map key_bytes keys) → length commands ≤ at → length rows < length keys → k ≡ get_or keys (length rows) k → option_map row_view row ≡ row_under (key_bytes k) db
    → next ≡ database_after db (Remove k.kind k.id) → new ≡ rows ++ row ∷ [] → length new ≡ length rows + 1
    → views_if_any rows ++ map (λ l. row_under l (database_after_all db (drop at commands))) (map key_bytes (drop (length rows) keys)) ≡ all
    → views_if_any new ++ map (λ l. row_under l (database_after_all next (drop at commands))) (map key_bytes (drop (length new) keys)) ≡ all
one_listed db next keys k commands at rows new row all rise end lt is found removed pushed long was =
    ap (λ (l : List RowView). views_if_any new ++ map (λ k. row_under k l) (map key_bytes (drop (length new) keys))) (all_folded next commands at end)
    ∙ ap (λ (n : ℕ). views_if_any new ++ map (λ k. row_under k next) (map key_bytes (drop n keys))) long
    ∙ ap (λ (l : List (Option RowView)). views_if_any new ++ l) (after_removal k db next (map key_bytes (drop (length rows + 1) keys)) removed (above_next (length rows) keys k lt rise is))
    ∙ one_more (λ l. row_under l db) rows new row keys (length rows) k all lt pushed (found ∙ ap (λ (x : Key). row_under (key_bytes x) db) is)
    (ap (λ (l : List RowView). views_if_any rows ++ map (λ k. row_under k l) (map key_bytes (drop (length rows) keys))) (sym (all_folded db commands at end)) ∙ was)
