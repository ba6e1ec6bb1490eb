use Rattle.std.proofs.Common.{List, ℕ, rules, refl, sym, subst, arith}
use Rattle.std.proofs.lemmas.Result.{err_from_is_err_and}
use Rattle.session_core.proofs.Pieces.{read_none, read_more, read_whole, read_fails, read_without_room, read_turns}
use Rattle.session_core.proofs.reading.read_pieces.Goals as goal

pub loop-turn-init : goal.loop-turn-init
loop-turn-init g c = record { piece = c.requires; so_far = read_none _ _ _ (search rules) }

pub returns-in_err-len : goal.returns-in_err-len
returns-in_err-len g c =
    let p = err_from_is_err_and c.from_residual.result c.from_residual.ensures.1 in
    rw (p.1, p.2) (read_fails _ _ _ _ _ c.loop-turn.invariant.so_far _ _ _ _ c.loop-turn-test.true c.in_err-len.ensures.nothing c.in_err-len.ensures.fails)

pub returns-then-len-eq0 : goal.returns-then-len-eq0
returns-then-len-eq0 g c =
    let none = rw c.if-len-eq0.true at c.in_ok-len.ensures.gives in
    read_whole _ _ _ _ _ c.loop-turn.invariant.so_far _ _ _ _ c.loop-turn-test.true none (c.in_ok-len.ensures.end c.if-len-eq0.true) refl

pub returns-then-is_err : goal.returns-then-is_err
returns-then-is_err g c =
    let gave = subst (λ (bytes : List ℕ). g.R.Source.gives c.loop-turn.reader bytes c.read_once.new.reader) (sym c.split_at.ensures.front) c.in_ok-len.ensures.gives in
    read_without_room _ _ _ _ _ c.loop-turn.invariant.so_far _ _ _ _ c.loop-turn-test.true gave (omega arith)

pub loop-turn-preserved : goal.loop-turn-preserved
loop-turn-preserved g c =
    let gave = subst (λ (bytes : List ℕ). g.R.Source.gives c.loop-turn.reader bytes c.read_once.new.reader) (sym c.split_at.ensures.front) c.in_ok-len.ensures.gives in
    record {
      piece = omega arith;
      so_far = read_more _ _ _ _ _ c.loop-turn.invariant.so_far _ _ _ _ gave (omega arith) (search rules) refl;
    }

pub returns : goal.returns
returns g c = read_turns _ _ _ _ _ c.loop-turn.invariant.so_far _ _ (omega arith)
