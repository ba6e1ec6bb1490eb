use Rattle.std.proofs.Common.{rules, ◌≡◌, ◌<◌, true, [], ◌∷◌, length, subst, arith}
use Rattle.row_map.specs.Row.{row_view}
use Rattle.path_db.specs.Wanted.{is_wanted}
use Rattle.path_db.proofs.ShownLeft.{ShowsAll, shown_enough, shown_whole, some_left}
use Rattle.path_db.proofs.answers.first_shown.Goals as goal
use Rattle.path_db.proofs.answers.first_shown.Goals.{in-None, in-Some+then-len-limit}

pub returns-clause-same : goal.returns-clause-same
returns-clause-same c =
    let wanted = is_wanted c.args.wanted in
    elim c.match-next.branch [
      | in-None w ↦
          let none : c.loop-row.row-iterator ≡ [] = search (rules, w.in-None) in
          shown_whole c.args.limit wanted c.args.rows c.loop-row.row-iterator c.loop-row.found.items c.loop-row.invariant.shown none c.loop-row.invariant.few
      | in-Some+then-len-limit w ↦
          let enough : length c.loop-row.found.items ≡ c.args.limit = omega (arith, c.loop-row.found.ok.0, w.len.ensures, w.if-len-limit.true) in
          shown_enough c.args.limit wanted c.args.rows c.loop-row.row-iterator c.loop-row.found.items c.loop-row.invariant.shown enough
    ]

pub returns-in_err-try_clone-clause-memory : goal.returns-in_err-try_clone-clause-memory
returns-in_err-try_clone-clause-memory c =
    let wanted = is_wanted c.args.wanted in
    let asked : length c.loop-row.found.items < c.args.limit = omega (arith, c.loop-row.invariant.few, c.if-len-limit.false, c.len.ensures, c.loop-row.found.ok.0) in
    let row = row_view c.in-Some.row.now in
    let passes : wanted row ≡ true = search (rules, c.if-asks_for) in
    let left = c.next.new.self in
    let front : c.loop-row.row-iterator ≡ row ∷ left = search (rules, c.in-Some) in
    let shown = subst (λ l. ShowsAll wanted c.args.rows c.loop-row.found.items l) front c.loop-row.invariant.shown in
    let some = some_left c.args.limit wanted c.args.rows left row c.loop-row.found.items passes shown asked in
    search (rules, some)

pub returns-in_err-push-clause-memory : goal.returns-in_err-push-clause-memory
returns-in_err-push-clause-memory c =
    let wanted = is_wanted c.args.wanted in
    let asked : length c.loop-row.found.items < c.args.limit = omega (arith, c.loop-row.invariant.few, c.if-len-limit.false, c.len.ensures, c.loop-row.found.ok.0) in
    let row = row_view c.in-Some.row.now in
    let passes : wanted row ≡ true = search (rules, c.if-asks_for) in
    let left = c.next.new.self in
    let front : c.loop-row.row-iterator ≡ row ∷ left = search (rules, c.in-Some) in
    let shown = subst (λ l. ShowsAll wanted c.args.rows c.loop-row.found.items l) front c.loop-row.invariant.shown in
    let some = some_left c.args.limit wanted c.args.rows left row c.loop-row.found.items passes shown asked in
    search (rules, some)
