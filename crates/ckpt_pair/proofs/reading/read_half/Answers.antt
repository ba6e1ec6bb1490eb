use Rattle.std.proofs.lemmas.Result.{err_from_is_err_and}
use Rattle.ckpt_pair.specs.Reading.{checkpoint_view}
use Rattle.ckpt_pair.proofs.Fronts.{half_read, half_refused, half_has_rows}
use Rattle.ckpt_pair.proofs.reading.read_half.Goals as goal

pub returns-in_err-db-clause-checkpoint : goal.returns-in_err-db-clause-checkpoint
returns-in_err-db-clause-checkpoint c =
    let p = err_from_is_err_and c.from_residual-in_err-db.result c.from_residual-in_err-db.ensures.1 in
    let refused = half_refused c.args.area.now c.in_ok-front.front _ c.in_ok-front.ensures c.rows_bytes.ensures checkpoint_view c.in_err-db.field-0.0 in
    rw (p.1, p.2) (λ other. refused (c.in_err-db.ensures.decoding other))

pub returns-in_err-db-clause-memory : goal.returns-in_err-db-clause-memory
returns-in_err-db-clause-memory c =
    let p = err_from_is_err_and c.from_residual-in_err-db.result c.from_residual-in_err-db.ensures.1 in
    let has = half_has_rows c.args.area.now c.in_ok-front.front _ c.in_ok-front.ensures c.rows_bytes.ensures in
    rw (p.1, p.2) (λ memory. has (c.in_err-db.ensures.memory memory))

pub returns-clause-checkpoint : goal.returns-clause-checkpoint
returns-clause-checkpoint c = half_read c.args.area.now c.in_ok-front.front _ c.in_ok-front.ensures c.rows_bytes.ensures c.in_ok-db.db c.in_ok-db.ensures.decoding
