use Rattle.std.proofs.Common.{rules, ◌≡◌, ◌<◌, take, length, IfSome, IfOk, OnErr, ap, subst, arith}
use Rattle.path_db.specs.Answer.{segments_of}
use Rattle.path_db.specs.Wanted.{AllHave}
use Rattle.path_db.proofs.Asked.{kept_along}
use Rattle.path_db.proofs.ways.shown_along.Goals as goal

pub exact_keys-requires : goal.exact_keys-requires
exact_keys-requires c =
    let all : AllHave c.args.by c.args.wanted c.in-Some.number = search (rules, c.number.ensures, c.in-Some) in
    omega (arith, all.next)

pub returns-clause-same : goal.returns-clause-same
returns-clause-same c =
    let all : AllHave c.args.by c.args.wanted c.in-Some.number = search (rules, c.number.ensures, c.in-Some) in
    let answer = ap (take c.args.limit) (kept_along c.args.by c.args.wanted c.args.rows.now c.args.index.now c.in-Some-exact_keys.index_keys c.in-Some.number c.requires.index all c.requires.rising c.exact_keys.ensures.rising c.in-Some-exact_keys.ensures.same) in
    subst (λ a. IfOk c.shown_at.result (λ it. IfSome it (λ found. found.items ≡ segments_of a))) answer c.shown_at.ensures.same

pub returns-clause-memory : goal.returns-clause-memory
returns-clause-memory c =
    let all : AllHave c.args.by c.args.wanted c.in-Some.number = search (rules, c.number.ensures, c.in-Some) in
    let answer = ap (take c.args.limit) (kept_along c.args.by c.args.wanted c.args.rows.now c.args.index.now c.in-Some-exact_keys.index_keys c.in-Some.number c.requires.index all c.requires.rising c.exact_keys.ensures.rising c.in-Some-exact_keys.ensures.same) in
    subst (λ a. OnErr c.shown_at.result (0 < length a)) answer c.shown_at.ensures.memory
