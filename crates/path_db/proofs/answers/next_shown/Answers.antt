use Rattle.std.proofs.Common.{[], ◌∷◌, Some, refl}
use Rattle.path_db.specs.Wanted.{is_wanted}
use Rattle.path_db.proofs.Current.{segments_next}
use Rattle.path_db.proofs.answers.next_shown.Goals as goal

-- the index row, and then the next three
pub returns-clause-same : goal.returns-clause-same
returns-clause-same c =
    let w = is_wanted c.args.wanted.now in
    let fourth = c.shown-4.result in
    let third = c.shown-3.result in
    let second = c.shown-2.result in
    let last = c.next-fourth.new.self in
    segments_next w (Some c.args.index_row) c.shown.result (second ∷ third ∷ fourth ∷ []) (c.args.index_row.now ∷ c.args.index_keys.now) c.args.index_keys.now last refl c.shown.ensures
    (segments_next w c.next-second.result second (third ∷ fourth ∷ []) c.args.index_keys.now c.next-second.new.self last c.next-second.ensures.steps c.shown-2.ensures
    (segments_next w c.next-third.result third (fourth ∷ []) c.next-second.new.self c.next-third.new.self last c.next-third.ensures.steps c.shown-3.ensures
    (segments_next w c.next-fourth.result fourth [] c.next-third.new.self last last c.next-fourth.ensures.steps c.shown-4.ensures refl)))
