use Rattle.std.proofs.Common.{◌≡◌, ◌⊎◌, true, take}
use Rattle.row_map.specs.IndexKey.{IndexKey, has}
use Rattle.row_map.proofs.IndexKeys.{KeepsKnown}
use Rattle.row_map.proofs.end_keys.add_rows.Given as goal

abbrev pub invariant-loop-index_row : goal.invariant-loop-index_row
invariant-loop-index_row l = record {
  kept : (q : IndexKey) → has l.fn.index q ≡ true → has l.index q ≡ true;
  within : (q : IndexKey) → has l.index q ≡ true → (has l.fn.index q ≡ true) ⊎ (has (take l.index_row-index l.touched) q ≡ true);
  done : (q : IndexKey) → has (take l.index_row-index l.touched) q ≡ true → has l.index q ≡ true;
  rows : KeepsKnown (take l.index_row-index l.touched) l.fn.index l.index;
}
