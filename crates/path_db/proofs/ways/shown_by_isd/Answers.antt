use Rattle.std.proofs.Common.{rules, ◌≡◌, ◌+◌, ◌^◌, ◌∙◌, subst, arith}
use Rattle.std.specs.List.{filter}
use Rattle.isd_as.specs.IsdAs.{isd_as_number}
use Rattle.seg_core.specs.Registration.{type_number}
use Rattle.row_map.specs.IndexKey.{stands_between}
use Rattle.path_db.specs.Wanted.{pattern_at}
use Rattle.path_db.specs.Walk.{IsWildcard}
use Rattle.path_db.proofs.Asked.{keys_between, current_between}
use Rattle.path_db.proofs.ways.shown_by_isd.Goals as goal

pub isd_keys-index_keys-requires : goal.isd_keys-index_keys-requires
isd_keys-index_keys-requires c =
    let wildcard : IsWildcard (isd_as_number c.pattern-pattern.result) = search (rules, c.is_wildcard.ensures, c.if-is_wildcard.true) in
    omega (arith, wildcard.next, c.to_u64.ensures)

pub shown_between-requires-clause-all : goal.shown_between-requires-clause-all
shown_between-requires-clause-all c =
    let end = c.args.end in
    let wanted = c.args.wanted in
    let index = c.args.index.now in
    let there : IsWildcard (isd_as_number c.pattern-pattern.result) = search (rules, c.is_wildcard.ensures, c.if-is_wildcard.true) in
    let wildcard = subst IsWildcard c.pattern-pattern.ensures there in
    let low : c.to_u64.result ≡ pattern_at end wanted = c.to_u64.ensures ∙ c.pattern-pattern.ensures in
    let walk = subst (λ n. c.isd_keys-index_keys.result ≡ filter (stands_between (type_number wanted.kind) n (n + 2 ^ 48)) index) low c.isd_keys-index_keys.ensures in
    keys_between end wanted c.args.rows.now index c.isd_keys-index_keys.result c.requires.index wildcard walk

pub shown_between-requires-clause-current : goal.shown_between-requires-clause-current
shown_between-requires-clause-current c =
    let end = c.args.end in
    let wanted = c.args.wanted in
    let index = c.args.index.now in
    let there : IsWildcard (isd_as_number c.pattern-pattern.result) = search (rules, c.is_wildcard.ensures, c.if-is_wildcard.true) in
    let wildcard = subst IsWildcard c.pattern-pattern.ensures there in
    let low : c.to_u64.result ≡ pattern_at end wanted = c.to_u64.ensures ∙ c.pattern-pattern.ensures in
    let walk = subst (λ n. c.isd_keys-index_keys.result ≡ filter (stands_between (type_number wanted.kind) n (n + 2 ^ 48)) index) low c.isd_keys-index_keys.ensures in
    current_between end wanted c.args.rows.now index c.isd_keys-index_keys.result c.requires.index wildcard walk
