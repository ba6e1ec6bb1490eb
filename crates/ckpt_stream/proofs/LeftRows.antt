-- The rows that commands leave, one command and one key after the other: for `left_rows`.
use Rattle.std.proofs.Common.{◌≡◌, ℕ, suc, ◌+◌, ◌<◌, ◌≤◌, List, [], ◌∷◌, ◌++◌, length, drop, get_or, refl, sym, ap, ◌∙◌, append_assoc, append-nil, add-one}
use Rattle.std.specs.Prelude.{Option, Some, None, map}
use Rattle.std.specs.Option.{option_map}
use Rattle.std.proofs.lemmas.List.{map-append}
use Rattle.std.proofs.Math.Seq.{drop-cons}
use Rattle.seg_core.specs.declared.seg_type.SegType.{SegType}
use Rattle.seg_core.specs.declared.seg_type.SegType.TheVariants.{Up, Down, Core}
use Rattle.seg_core.specs.SegmentView.{SegmentView}
use Rattle.seg_core.specs.Registration.{type_number}
use Rattle.path_db.specs.declared.command.Command.{Command}
use Rattle.row_map.specs.declared.row.Row.{Row}
use Rattle.row_map.specs.Database.{RowView, key, key_of, row_under}
use Rattle.path_db.specs.Command.{database_after, database_after_all}
use Rattle.row_map.specs.Row.{row_view}
use Rattle.path_records.specs.declared.key.Key.{Key}
use Rattle.path_records.specs.Key.{key_bytes}
use Rattle.ckpt_stream.specs.Edits.{views_if_any}
use Rattle.ckpt_stream.proofs.Keys.{IsOf, its_key, found_of}
use Rattle.ckpt_stream.proofs.Ends.{none_left_of}

-- ---- commands

pub folded : (rows next : List RowView) (commands : List Command) (n : ℕ) (command : Command) → n < length commands
    → next ≡ database_after rows (get_or commands n command) → database_after_all next (drop (n + 1) commands) ≡ database_after_all rows (drop n commands)
unfolding database_after_all
folded rows next commands n command lt is =
    ap (λ (l : List RowView). database_after_all l (drop (n + 1) commands)) is
    ∙ ap (λ (m : ℕ). database_after_all (database_after rows (get_or commands n command)) (drop m commands)) (add-one n)
    ∙ sym (ap (λ (l : List Command). database_after_all rows l) (drop-cons commands n command lt))

pub all_folded : (rows : List RowView) (commands : List Command) (n : ℕ) → length commands ≤ n → database_after_all rows (drop n commands) ≡ rows
unfolding database_after_all
all_folded rows commands n end = ap (λ (l : List Command). database_after_all rows l) (none_left_of n commands end)

-- ---- the row under a key

same_type : (a b : SegType) → type_number a ≡ type_number b → a ≡ b
same_type Up Up e = refl
same_type Up Down e = absurd cc
same_type Up Core e = absurd cc
same_type Down Up e = absurd cc
same_type Down Down e = refl
same_type Down Core e = absurd cc
same_type Core Up e = absurd cc
same_type Core Down e = absurd cc
same_type Core Core e = refl

type_of : (kind : SegType) (id : List ℕ) (row : RowView) → key kind id ≡ key_of row → type_number kind ≡ type_number row.0
unfolding key_of
type_of kind id row e = cc

row_of : (kind : SegType) (id : List ℕ) (segment : SegmentView) (found : Option RowView) → IsOf (key kind id) found → Some segment ≡ option_map (λ row. row.1) found
    → Some (kind, segment) ≡ found
row_of kind id segment None of is = absurd cc
row_of kind id segment (Some row) of is =
    let same : segment ≡ row.1 = cc in
    ap (λ (k : SegType). Some (k, segment)) (same_type kind row.0 (type_of kind id row (its_key (key kind id) row of)))
    ∙ ap (λ (s : SegmentView). Some (row.0, s)) same

pub row_is : (kind : SegType) (id : List ℕ) (rows : List RowView) (segment copy : SegmentView) (row : RowView) → Some segment ≡ option_map (λ row. row.1) (row_under (key kind id) rows)
    → copy ≡ segment → row ≡ (kind, copy) → Some row ≡ row_under (key kind id) rows
row_is kind id rows segment copy row there same is =
    ap (λ (r : RowView). Some r) (is ∙ ap (λ (s : SegmentView). (kind, s)) same)
    ∙ row_of kind id segment (row_under (key kind id) rows) (found_of (key kind id) rows) there

-- ---- the rows under keys

pub one_more : (f : List ℕ → Option RowView) (rows new : List (Option Row)) (row : Option Row) (keys : List Key) (n : ℕ) (k : Key) (all : List (Option RowView)) → n < length keys
    → new ≡ rows ++ row ∷ [] → option_map row_view row ≡ f (key_bytes (get_or keys n k))
    → views_if_any rows ++ map f (map key_bytes (drop n keys)) ≡ all → views_if_any new ++ map f (map key_bytes (drop (n + 1) keys)) ≡ all
one_more f rows new row keys n k all lt is found was =
    ap (λ (l : List (Option Row)). views_if_any l ++ map f (map key_bytes (drop (n + 1) keys))) is
    ∙ ap (λ (m : ℕ). views_if_any (rows ++ row ∷ []) ++ map f (map key_bytes (drop m keys))) (add-one n)
    ∙ ap (λ (l : List (Option RowView)). l ++ map f (map key_bytes (drop (suc n) keys))) (map-append (option_map row_view) rows (row ∷ []))
    ∙ append_assoc (views_if_any rows) (option_map row_view row ∷ []) (map f (map key_bytes (drop (suc n) keys)))
    ∙ ap (λ (o : Option RowView). views_if_any rows ++ o ∷ map f (map key_bytes (drop (suc n) keys))) found
    ∙ ap (λ (l : List Key). views_if_any rows ++ map f (map key_bytes l)) (sym (drop-cons keys n k lt))
    ∙ was

pub all_there : (f : List ℕ → Option RowView) (rows : List (Option Row)) (keys : List Key) (n : ℕ) (all : List (Option RowView)) → length keys ≤ n
    → views_if_any rows ++ map f (map key_bytes (drop n keys)) ≡ all → views_if_any rows ≡ all
all_there f rows keys n all end was =
    sym (append-nil (views_if_any rows)) ∙ sym (ap (λ (l : List Key). views_if_any rows ++ map f (map key_bytes l)) (none_left_of n keys end)) ∙ was
