use Rattle.std.proofs.Common.{◌≡◌, Some, Result, Ok, Err, IfOk, sym, subst}
use Rattle.std.specs.Result.{result_ok}
use Rattle.row_map.specs.IndexKey.{IndexKey}
use Rattle.row_map.specs.declared.end.End.TheVariants.{First, Last}
use Rattle.row_map.specs.declared.end.By.TheVariants.{OneEnd}
use Rattle.row_map.specs.EndKeys.{index_number, IsRowOf}
use Rattle.row_map.specs.Row.{row_view}
use Rattle.path_db.proofs.renewing.index_rows_of.Goals as goal

-- what holds for the value of a call that succeeded
of_ok : {E : Type 0} (P : IndexKey → Type 0) (r : Result IndexKey E) (q : IndexKey) → result_ok r ≡ Some q → IfOk r P → P q
of_ok P (Ok p) q same it = let one : p ≡ q = cc in subst P one it
of_ok P (Err e) q same it = absurd (cc (same))

pub returns-clause-first : goal.returns-clause-first
returns-clause-first c = of_ok (λ q. IsRowOf (index_number (OneEnd First)) q (row_view c.args.row.now)) c.index_row_of.result c.in_ok-first.first (sym c.in_ok-first.ensures.value) c.index_row_of.ensures

pub returns-clause-last : goal.returns-clause-last
returns-clause-last c = of_ok (λ q. IsRowOf (index_number (OneEnd Last)) q (row_view c.args.row.now)) c.index_row_of-2.result c.in_ok-last.last (sym c.in_ok-last.ensures.value) c.index_row_of-2.ensures
