use Rattle.std.proofs.Common.{sym, ◌∙◌}
use Rattle.std.proofs.lemmas.Bool.{false≢true}
use Rattle.row_map.specs.declared.bucket_walk.BucketWalk.{BucketWalk}
use Rattle.row_map.specs.Purge.{OutlastsBefore}
use Rattle.row_map.proofs.Bucketed.{all_of, none_before}
use Rattle.row_map.proofs.bucket_walk.BucketWalk.new.Goals as goal

pub returns-clause-passed : goal.returns-clause-passed
returns-clause-passed c = λ rows.
    let walk : BucketWalk = record { moment = c.args.moment; bucket = 0; least = 18446744073709551615 } in
    all_of (OutlastsBefore walk) rows (λ row before. absurd (false≢true (sym (none_before row) ∙ before)))
