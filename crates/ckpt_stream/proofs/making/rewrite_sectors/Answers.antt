-- What is rewritten of a window are bytes of the rows of the area, and sectors that have other
-- sums.
use Rattle.std.proofs.Common.{◌≡◌, ℕ, ◌+◌, ◌-◌, ◌*◌, ◌∙◌, length, take, drop, subst, sym, rules, arith}
use Rattle.byte_lists.specs.Content.{part}
use Rattle.ckpt_stream.proofs.SectorSums.{window_sums, part_summed}
use Rattle.ckpt_stream.proofs.making.rewrite_sectors.Goals as goal

pub returns-clause-same : goal.returns-clause-same
returns-clause-same c area reads shows =
    let rows = part (512 * area + 32) c.args.size reads in
    let w = c.row_part-rows.result.now in
    c.rewrite.ensures.rewrites.same rows
    (subst (λ (n : ℕ). take (length w) (drop n rows) ≡ w) (sym c.saturating_sub-from.ensures) (c.row_part-rows.ensures.shown area reads shows))

pub returns-then-not-have_sums-clause-damaged : goal.returns-then-not-have_sums-clause-damaged
returns-then-not-have_sums-clause-damaged c area reads shows long summed =
    let rows = part (512 * area + 32) c.args.size reads in
    let same = window_sums c.args.first c.args.count c.args.size rows c.row_part-rows.result.now long c.row_part-rows.ensures.len (c.row_part-rows.ensures.shown area reads shows) in
    let rest : ℕ = length c.args.sums.now - (c.args.first + c.args.count) in
    let all : length c.args.sums.now ≡ c.args.first + (c.args.count + rest) = omega (arith, c.requires.summed) in
    c.have_sums.ensures.other (search (rules, c.if-not-have_sums.true)) (part_summed c.args.first c.args.count rest c.args.sums.now rows all summed ∙ sym same)
