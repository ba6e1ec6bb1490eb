-- The rows of one type, by their keys: for `of_type`.
use Rattle.std.proofs.Common.{◌≡◌, ℕ, ◌+◌, true, not, cond, ◌&&◌, ◌==◌, List, [], ◌∷◌, refl, sym, ap, ◌∙◌}
use Rattle.std.specs.List.{filter}
use Rattle.std.specs.Ordering.{nat_cmp, is_eq, is_le, ordering_then}
use Rattle.std.specs.Cmp.{ranks}
use Rattle.std.specs.Cmp.Lexicographic.{slice_cmp}
use Rattle.std.specs.declared.cmp.Ordering.{Ordering}
use Rattle.std.specs.declared.cmp.Ordering.TheVariants.{Less, Equal, Greater}
use Rattle.std.proofs.lemmas.Bool.{false≢true}
use Rattle.std.proofs.lemmas.Bool.Decides.{eqb_tells}
use Rattle.std.proofs.lemmas.List.Elements.{filter_agree}
use Rattle.row_map.proofs.Bounds.{zeros, zeros_first, IsNext, next_rank, same_number}
use Rattle.seg_core.specs.Registration.{type_number}
use Rattle.row_map.specs.declared.row.Row.{Row}
use Rattle.row_map.specs.declared.row_key.RowKey.{RowKey}
use Rattle.row_map.specs.Database.{key_of}
use Rattle.row_map.specs.Row.{row_view}
use Rattle.row_map.specs.RowMap.{bytes_of, views_of, AreUnderTheirKeys}
use Rattle.row_map.proofs.Keyed.{key_cmp, passed_first}

-- the cases by the orders of a type, of the next type, and of the least id
table : (o p later : Ordering) → is_le later ≡ true → IsNext o p → (is_le (ordering_then o later) && not (is_le (ordering_then p later))) ≡ is_eq o
table Less Less later e next = refl
table Less Equal later e next = ap not e
table Less Greater later e next = absurd (false≢true next)
table Equal Less later e next = absurd (false≢true (sym next))
table Equal Equal later e next = absurd (false≢true (sym next))
table Equal Greater later e next = ap (λ b. b && true) e
table Greater p later e next = refl

-- the keys between the least keys of a type and of the next type
pub between : (low high k : RowKey) → low.id ≡ zeros 32 → high.id ≡ zeros 32 → high.kind ≡ low.kind + 1 → (is_le (key_cmp low k) && not (is_le (key_cmp high k))) ≡ (k.kind == low.kind)
between low high k low_id high_id next =
    rw (low_id, high_id, next)
    (table (nat_cmp low.kind k.kind) (nat_cmp (low.kind + 1) k.kind) (slice_cmp nat_cmp (zeros 32) k.id)
    (zeros_first 32 k.id k.long)
    (next_rank (nat_cmp low.kind k.kind) (nat_cmp (low.kind + 1) k.kind) low.kind k.kind (ranks low.kind k.kind) (ranks (low.kind + 1) k.kind))
    ∙ same_number (nat_cmp low.kind k.kind) low.kind k.kind (ranks low.kind k.kind) (eqb_tells k.kind low.kind))

-- a key has the type of its row
pub own_kind : (k : RowKey) (row : Row) → bytes_of k ≡ key_of (row_view row) → k.kind ≡ type_number row.kind
unfolding key_of
own_kind k row e = cc

typed_by : (n : ℕ) (es : List (RowKey × Row)) → AreUnderTheirKeys es → views_of (filter (λ (e : RowKey × Row). e.0.kind == n) es) ≡ filter (λ row. type_number row.0 == n) (views_of es)
typed_by n [] own = refl
typed_by n (e ∷ es) own =
    let left = filter (λ row. type_number row.0 == n) (views_of es) in
    passed_first (e.0.kind == n) e (filter (λ (e : RowKey × Row). e.0.kind == n) es) left (typed_by n es own.1)
    ∙ ap (λ m. cond (m == n) (row_view e.1 ∷ left) left) (own_kind e.0 e.1 own.0)

-- the entries between the least keys of a type and of the next type are the rows of that type
pub rows_typed : (low high : RowKey) (es : List (RowKey × Row)) → low.id ≡ zeros 32 → high.id ≡ zeros 32 → high.kind ≡ low.kind + 1 → AreUnderTheirKeys es
    → views_of (filter (λ (e : RowKey × Row). is_le (key_cmp low e.0) && not (is_le (key_cmp high e.0))) es) ≡ filter (λ row. type_number row.0 == low.kind) (views_of es)
rows_typed low high es low_id high_id next own =
    ap views_of (filter_agree _ (λ (e : RowKey × Row). e.0.kind == low.kind) (λ e. between low high e.0 low_id high_id next) es) ∙ typed_by low.kind es own
