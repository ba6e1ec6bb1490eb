use Rattle.std.proofs.Common.{rules, ◌≡◌, [], if◌then◌else◌}
use Rattle.std.specs.Result.{is_ok}
use Rattle.row_map.proofs.Bucketed.{copied_bounded}
use Rattle.row_map.proofs.expiry_bounds.ExpiryBounds.copy.Goals as goal

pub returns : goal.returns
returns c = λ row bounded.
    let copied : c.extend_from_slice.new.self.items ≡ (if is_ok c.extend_from_slice.result then c.args.self.now.by_bucket.items else []) = search (rules, c.extend_from_slice.ensures.items) in
    record { least = bounded.least; bucket = copied_bounded (is_ok c.extend_from_slice.result) c.args.self.now.by_bucket.items c.extend_from_slice.new.self.items row copied bounded.bucket }
