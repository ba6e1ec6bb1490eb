use Rattle.std.proofs.Common.{◌≡◌, true, sym, ap, ◌∙◌}
use Rattle.std.proofs.lemmas.Bool.{false≢true}
use Rattle.row_map.specs.declared.purge_walk.PurgeWalk.{PurgeWalk}
use Rattle.row_map.specs.Buckets.{is_before}
use Rattle.row_map.specs.Purge.{is_below, OutlastsAmong}
use Rattle.row_map.proofs.Bucketed.{all_of, not_among}
use Rattle.row_map.proofs.purge_walk.PurgeWalk.new.Goals as goal

pub returns-clause-passed : goal.returns-clause-passed
returns-clause-passed c = λ rows.
    let walk : PurgeWalk = record { moment = c.args.moment; low = c.args.low; high = c.args.high; from = c.first_key.result; least = 18446744073709551615; visited = 0 } in
    all_of (λ row. is_below c.first_key.result row ≡ true → OutlastsAmong walk row) rows
    (λ row below among. absurd (false≢true (sym (not_among c.args.low c.args.high row (sym (ap (λ k. is_before k row) c.first_key.ensures) ∙ below)) ∙ among)))
