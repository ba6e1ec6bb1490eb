-- The head of the record that was cut, its segment, and the bytes behind them.
use Rattle.std.proofs.Common.{rules, ◌≡◌, ◌≢◌, ◌++◌, ◌∙◌, List, ℕ, refl, ap, sym, subst, append_assoc}
use Rattle.std.specs.Prelude.{IfOk, IfErr}
use Rattle.path_records.specs.declared.error.DbError.{DbError}
use Rattle.path_records.specs.declared.error.DbError.TheVariants.{NoMemory}
use Rattle.path_records.specs.DatabaseReader.{AreRefused}
use Rattle.path_records.proofs.RowPieces.{refused_longer, parts_fed}
use Rattle.path_records.proofs.database_reader.DatabaseReader.feed_by.Goals as goal

pub returns-in_err-reader-clause-refused : goal.returns-in_err-reader-clause-refused
returns-in_err-reader-clause-refused g c =
    let head = c.split_at.result.0.now in
    let behind = c.split_at.result.1.now in
    let e = c.in_err-reader.field-0.0 in
    let refused : e ≢ NoMemory → AreRefused (c.args.self ++ c.args.piece.now) e =
    λ some. subst (λ (l : List ℕ). AreRefused l e) (append_assoc c.args.self head behind ∙ ap (λ (t : List ℕ). c.args.self ++ t) (sym c.split_at.ensures.by_index.0))
    (refused_longer (c.args.self ++ head) behind e (c.in_err-reader.ensures.refused some)) in
    search (rules, refused)

pub returns-in_err-feed_joined-clause-refused : goal.returns-in_err-feed_joined-clause-refused
returns-in_err-feed_joined-clause-refused g c =
    let segment = c.split_at-2.result.0.now in
    let rest = c.split_at-2.result.1.now in
    let one = c.in_ok-reader.reader in
    let e = c.in_err-feed_joined.field-0.0 in
    let refused : e ≢ NoMemory → AreRefused (c.args.self ++ c.args.piece.now) e =
    λ some. subst (λ (l : List ℕ). AreRefused l e)
    (parts_fed c.args.self c.args.piece.now c.split_at.result.0.now c.split_at.result.1.now segment rest one (one ++ segment) c.split_at.ensures.by_index.0 c.split_at-2.ensures.by_index.0 c.in_ok-reader.ensures.fed refl)
    (refused_longer (one ++ segment) rest e (c.in_err-feed_joined.ensures.refused some)) in
    search (rules, refused)

pub returns-clause-fed : goal.returns-clause-fed
returns-clause-fed g c =
    subst (λ (l : List ℕ). IfOk c.feed_apart.result (λ (reader : List ℕ). reader ≡ l))
    (parts_fed c.args.self c.args.piece.now c.split_at.result.0.now c.split_at.result.1.now c.split_at-2.result.0.now c.split_at-2.result.1.now c.in_ok-reader.reader c.in_ok-feed_joined.field-0
    c.split_at.ensures.by_index.0 c.split_at-2.ensures.by_index.0 c.in_ok-reader.ensures.fed c.in_ok-feed_joined.ensures.fed)
    c.feed_apart.ensures.fed

pub returns-clause-refused : goal.returns-clause-refused
returns-clause-refused g c =
    subst (λ (l : List ℕ). IfErr c.feed_apart.result (λ (e : DbError). e ≢ NoMemory → AreRefused l e))
    (parts_fed c.args.self c.args.piece.now c.split_at.result.0.now c.split_at.result.1.now c.split_at-2.result.0.now c.split_at-2.result.1.now c.in_ok-reader.reader c.in_ok-feed_joined.field-0
    c.split_at.ensures.by_index.0 c.split_at-2.ensures.by_index.0 c.in_ok-reader.ensures.fed c.in_ok-feed_joined.ensures.fed)
    c.feed_apart.ensures.refused
