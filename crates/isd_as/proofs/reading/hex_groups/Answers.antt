-- A text without a colon, or with a part that is no group, is not three groups.
use Rattle.std.proofs.Common.{None, Some}
use Rattle.isd_as.proofs.Grammar.{groups_cut, two_groups_cut}
use Rattle.isd_as.proofs.reading.hex_groups.Goals as goal

pub returns-in_err-first-clause-none : goal.returns-in_err-first-clause-none
returns-in_err-first-clause-none c = rw c.from_residual.ensures (λ high middle low g. groups_cut c.args.text.now high middle low None c.in_err-first.ensures.cases g)

pub returns-in_err-second-clause-none : goal.returns-in_err-second-clause-none
returns-in_err-second-clause-none c = rw c.from_residual-in_err-second.ensures (λ high middle low g.
    let outer = groups_cut c.args.text.now high middle low (Some (c.in_ok-first.first, c.in_ok-first.rest)) c.in_ok-first.ensures.cases g in
    two_groups_cut c.in_ok-first.rest.now middle low None c.in_err-second.ensures.cases outer.1)

pub returns-in_err-hex_group-clause-none : goal.returns-in_err-hex_group-clause-none
returns-in_err-hex_group-clause-none c = rw c.from_residual-in_err-hex_group.ensures (λ high middle low g.
    let outer = groups_cut c.args.text.now high middle low (Some (c.in_ok-first.first, c.in_ok-first.rest)) c.in_ok-first.ensures.cases g in
    c.in_err-hex_group.ensures.none high outer.0)

pub returns-in_err-hex_group-2-clause-none : goal.returns-in_err-hex_group-2-clause-none
returns-in_err-hex_group-2-clause-none c = rw c.from_residual-in_err-hex_group-2.ensures (λ high middle low g.
    let outer = groups_cut c.args.text.now high middle low (Some (c.in_ok-first.first, c.in_ok-first.rest)) c.in_ok-first.ensures.cases g in
    let inner = two_groups_cut c.in_ok-first.rest.now middle low (Some (c.in_ok-second.second, c.in_ok-second.third)) c.in_ok-second.ensures.cases outer.1 in
    c.in_err-hex_group-2.ensures.none middle inner.0)

pub returns-in_err-hex_group-3-clause-none : goal.returns-in_err-hex_group-3-clause-none
returns-in_err-hex_group-3-clause-none c = rw c.from_residual-in_err-hex_group-3.ensures (λ high middle low g.
    let outer = groups_cut c.args.text.now high middle low (Some (c.in_ok-first.first, c.in_ok-first.rest)) c.in_ok-first.ensures.cases g in
    let inner = two_groups_cut c.in_ok-first.rest.now middle low (Some (c.in_ok-second.second, c.in_ok-second.third)) c.in_ok-second.ensures.cases outer.1 in
    c.in_err-hex_group-3.ensures.none low inner.1)
