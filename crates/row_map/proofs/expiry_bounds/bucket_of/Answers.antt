use Rattle.std.proofs.Common.{rules, ◌<◌, get_or, arith}
use Rattle.row_map.proofs.Bucketed.{bucket_is}
use Rattle.row_map.proofs.expiry_bounds.bucket_of.Goals as goal

pub returns : goal.returns
returns c = λ row its n among.
    let key = c.args.key.now in
    let first : get_or key.id 0 0 < 256 = search (rules) in
    let second : get_or key.id 1 0 < 256 = search (rules) in
    omega (arith, bucket_is key.kind key.id row n key.long first second its among, c.from.ensures, c.saturating_sub-kind.ensures, c.from-2.ensures, c.from-3.ensures)
