use Rattle.std.proofs.Common.{rules, ◌≡◌, ◌<◌, [], ◌∷◌, length, None, true, sym, ap, ◌∙◌, subst, arith}
use Rattle.std.specs.List.{AllByRecursion, filter}
use Rattle.row_map.specs.RowMap.{HasRowPut, indexed_key}
use Rattle.row_map.specs.EndKeys.{IsCurrent}
use Rattle.path_db.specs.Walk.{segments_there}
use Rattle.path_db.specs.Wanted.{is_wanted}
use Rattle.path_db.proofs.Asked.{asked_row}
use Rattle.path_db.proofs.Gathered.{IsGathering, one_passes, none_passes, gathered_same, gathered_more, gathered_all, some_pass}
use Rattle.path_db.proofs.ways.sorted_rows.Goals as goal

pub returns-in_err-share-clause-memory : goal.returns-in_err-share-clause-memory
returns-in_err-share-clause-memory c =
    let w = is_wanted c.args.wanted.now in
    let rows = c.args.rows.now in
    let q = c.in-Some.index_row.now in
    let it = one_passes w q.row c.in-Some-shown.segment.now c.in-Some-shown.ensures in
    let front : c.loop-index_row.index_keys ≡ q ∷ c.next.new.self = search (rules, c.in-Some) in
    let current = subst (AllByRecursion (IsCurrent rows)) front c.loop-index_row.invariant.current in
    let some : 0 < length (filter w rows) = some_pass w rows c.len-count.ensures.rising (indexed_key q) it.0 (sym current.0 ∙ it.1) it.2 in
    search (rules, some)

pub loop-index_row-preserved-in-Continue-1 : goal.loop-index_row-preserved-in-Continue-1
loop-index_row-preserved-in-Continue-1 c =
    let w = is_wanted c.args.wanted.now in
    let rows = c.args.rows.now in
    let q = c.in-Some.index_row.now in
    let old = c.loop-index_row.sorted in
    let new = c.share.new.rows in
    let it = one_passes w q.row c.in-Some-shown.segment.now c.in-Some-shown.ensures in
    let front : c.loop-index_row.index_keys ≡ q ∷ c.next.new.self = search (rules, c.in-Some) in
    let current = subst (AllByRecursion (IsCurrent rows)) front c.loop-index_row.invariant.current in
    let before = subst (λ l. IsGathering w rows old l) front c.loop-index_row.invariant.gathering in
    let put = subst (λ row. HasRowPut old row new) (asked_row c.args.wanted.now it.0 c.in-Some-shown.segment.now it.2 it.3) c.in_ok-share.ensures.put in
    let taken : c.take.result ≡ true = search (rules, c.if-not-take) in
    record {
      gathering = gathered_more w rows q it.0 (sym current.0 ∙ it.1) old new put c.next.new.self it.2 c.in_ok-share.ensures.rising before;
      current = current.1;
      counted = omega (arith, c.take.ensures.count taken, c.take.ensures.left taken, c.loop-index_row.invariant.counted);
    }

pub loop-index_row-preserved : goal.loop-index_row-preserved
loop-index_row-preserved c =
    let w = is_wanted c.args.wanted.now in
    let rows = c.args.rows.now in
    let q = c.in-Some.index_row.now in
    let old = c.loop-index_row.sorted in
    let none : c.shown.result ≡ None = search (rules, c.in_default-shown) in
    let empty = sym (ap (λ o. segments_there (o ∷ [])) none) ∙ c.shown.ensures in
    let front : c.loop-index_row.index_keys ≡ q ∷ c.next.new.self = search (rules, c.in-Some) in
    let current = subst (AllByRecursion (IsCurrent rows)) front c.loop-index_row.invariant.current in
    let before = subst (λ l. IsGathering w rows old l) front c.loop-index_row.invariant.gathering in
    let taken : c.take.result ≡ true = search (rules, c.if-not-take) in
    record {
      gathering = gathered_same w rows q old c.next.new.self (λ s there. none_passes w q.row empty s (current.0 ∙ there)) before;
      current = current.1;
      counted = omega (arith, c.take.ensures.count taken, c.take.ensures.left taken, c.loop-index_row.invariant.counted);
    }

pub returns-clause-same : goal.returns-clause-same
returns-clause-same c =
    let w = is_wanted c.args.wanted.now in
    let rows = c.args.rows.now in
    let sorted = c.loop-index_row.sorted in
    let none : c.loop-index_row.index_keys ≡ [] = search (rules, c.in_default) in
    gathered_all w rows sorted (subst (λ l. IsGathering w rows sorted l) none c.loop-index_row.invariant.gathering) c.len-count.ensures.rising
