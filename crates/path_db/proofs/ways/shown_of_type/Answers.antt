use Rattle.std.proofs.Common.{◌≡◌, ◌<◌, ◌≤◌, ℕ, not, take, length, None, Option, Result, Ok, Err, IfSome, IfOk, OnErr, refl, ap, ◌∙◌, subst, arith}
use Rattle.std.specs.List.{filter}
use Rattle.std.proofs.lemmas.List.Filters.{length-filter_both}
use Rattle.path_db.specs.Answer.{segments_of}
use Rattle.row_map.specs.Ranges.{is_of_type}
use Rattle.path_db.specs.Wanted.{is_past, is_wanted}
use Rattle.path_db.proofs.Asked.{kept_typed}
use Rattle.path_db.proofs.ways.shown_of_type.Goals as goal

pub returns-clause-same : goal.returns-clause-same
returns-clause-same c =
    let w = is_wanted c.args.wanted in
    let answer = ap (take c.args.limit) (ap (filter w) c.rows_of_type.ensures ∙ kept_typed c.args.wanted c.args.rows.now) in
    subst (λ a. IfOk c.first_shown.result (λ it. IfSome it (λ found. found.items ≡ segments_of a))) answer c.first_shown.ensures.same

pub returns-clause-memory : goal.returns-clause-memory
returns-clause-memory c =
    let w = is_wanted c.args.wanted in
    let answer = ap (take c.args.limit) (ap (filter w) c.rows_of_type.ensures ∙ kept_typed c.args.wanted c.args.rows.now) in
    subst (λ a. OnErr c.first_shown.result (0 < length a)) answer c.first_shown.ensures.memory

ended_below : {X E : Type 0} (r : Result (Option X) E) (left few all : ℕ) → few ≤ all → IfOk r (λ it. it ≡ None → left < few) → IfOk r (λ it. it ≡ None → left < all)
ended_below (Ok it) left few all fits ended = λ none. let less = ended none in omega (arith, less)
ended_below (Err e) left few all fits ended = ended

pub returns-clause-ended : goal.returns-clause-ended
returns-clause-ended c =
    let rows = c.args.rows.now in
    let typed = is_of_type c.args.wanted.kind in
    let past = is_past c.args.wanted.kind c.args.wanted.after in
    let few : length c.rows_of_type.result ≤ length rows =
    omega (arith, ap length c.rows_of_type.ensures, length-filter_both typed (λ row. not (typed row)) (λ row. refl) (filter past rows), length-filter_both past (λ row. not (past row)) (λ row. refl) rows) in
    ended_below c.first_shown.result c.args.visits.now.left (length c.rows_of_type.result) (length rows) few c.first_shown.ensures.ended
