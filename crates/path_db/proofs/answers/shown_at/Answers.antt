use Rattle.std.proofs.Common.{rules, ◌≡◌, [], ◌∷◌, length, ap, ◌∙◌, arith}
use Rattle.std.specs.List.{filter}
use Rattle.path_db.specs.Answer.{segments_of}
use Rattle.path_db.specs.Wanted.{is_wanted}
use Rattle.path_db.specs.Walk.{rows_in, segments_there}
use Rattle.path_db.proofs.ShownFirst.{first_enough, first_whole, first_some}
use Rattle.path_db.proofs.answers.shown_at.Goals as goal
use Rattle.path_db.proofs.answers.shown_at.Goals.{in-Some+then-len-limit, in_default}

pub returns-clause-same : goal.returns-clause-same
returns-clause-same c =
    let wanted = is_wanted c.args.wanted in
    let all = rows_in c.args.index_keys in
    let left = rows_in c.loop-index_row.index_keys in
    elim c.match-next.branch [
      | in-Some+then-len-limit w ↦
          let enough : length c.loop-index_row.found.items ≡ c.args.limit = omega (arith, c.loop-index_row.found.ok.0, w.len.ensures, w.if-len-limit.true) in
          first_enough c.args.limit wanted all left c.loop-index_row.found.items c.loop-index_row.invariant.shown enough
      | in_default w ↦
          let none : c.loop-index_row.index_keys ≡ [] = search (rules, w.in_default) in
          first_whole c.args.limit wanted all left c.loop-index_row.found.items c.loop-index_row.invariant.shown (ap rows_in none) c.loop-index_row.invariant.few
    ]

pub returns-in_err-append_shown-clause-memory : goal.returns-in_err-append_shown-clause-memory
returns-in_err-append_shown-clause-memory c =
    let wanted = is_wanted c.args.wanted in
    let all = rows_in c.args.index_keys in
    let left = rows_in c.loop-index_row.index_keys in
    let more = rows_in c.next_shown-shown.new.index_keys in
    let some = segments_there c.next_shown-shown.result in
    let front : c.loop-index_row.index_keys ≡ c.in-Some.index_row.now ∷ c.next.new.self = search (rules, c.in-Some) in
    let split = ap (λ l. segments_of (filter wanted (rows_in l))) front ∙ c.next_shown-shown.ensures.same in
    let there = first_some c.args.limit wanted all left more some c.loop-index_row.found.items c.loop-index_row.invariant.shown split c.in_err-append_shown.ensures.memory.0 c.in_err-append_shown.ensures.memory.1 in
    search (rules, there)
