use Rattle.std.proofs.Common.{◌≡◌, ◌&&◌, ℕ, List, Option, IfSome, sym, subst}
use Rattle.std.specs.List.{filter}
use Rattle.seg_core.specs.Registration.{type_number}
use Rattle.row_map.specs.IndexKey.{stands_at}
use Rattle.path_db.specs.Walk.{is_past_id}
use Rattle.path_db.proofs.ways.exact_keys.Goals as goal

pub returns-in-Some-clause-same : goal.returns-in-Some-clause-same
returns-in-Some-clause-same c =
    subst (λ (after : Option (List ℕ)). IfSome c.keys_after.result (λ keys. keys ≡ filter (λ q. stands_at (type_number c.args.wanted.now.kind) c.args.number q && is_past_id after q) c.args.index.now)) (sym c.in-Some.is) c.keys_after.ensures.same
