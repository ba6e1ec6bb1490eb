-- The order of index keys is total.
use Rattle.std.specs.Cmp.{IsTotalOrder, nat_cmp_total, on_total, then_total}
use Rattle.std.specs.Cmp.Lexicographic.{nat_list_cmp_total}
use Rattle.row_map.specs.IndexKey.{IndexKey, index_key_cmp}

pub index_key_total : IsTotalOrder index_key_cmp
index_key_total = then_total (on_total (λ (p : IndexKey). p.kind) nat_cmp_total) (then_total (on_total (λ (p : IndexKey). p.isd_as) nat_cmp_total) (on_total (λ (p : IndexKey). p.id) nat_list_cmp_total))
