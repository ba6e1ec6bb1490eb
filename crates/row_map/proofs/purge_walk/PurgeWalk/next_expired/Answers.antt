use Rattle.std.proofs.Common.{rules, ◌≡◌, true, false, not, [], ◌∷◌, ◌++◌, ap, ◌∙◌, subst, arith}
use Rattle.std.specs.List.{filter}
use Rattle.std.specs.declared.cmp.Ordering.TheVariants.{Less}
use Rattle.std.proofs.lemmas.Bool.{not-false, and_parts}
use Rattle.row_map.specs.Database.{RowView, key_order}
use Rattle.row_map.specs.Drops.{is_valid_beyond}
use Rattle.row_map.specs.Row.{row_view}
use Rattle.row_map.specs.Buckets.{first_key, is_before, is_among}
use Rattle.row_map.specs.Purge.{is_below, Outlasts, OutlastsAmong}
use Rattle.row_map.proofs.Bucketed.{all_implied, below_stop, outlasts_lowered}
use Rattle.row_map.proofs.Purged.{HasWalked, walk_goes_on, walk_ends, found_in, passed_before, passed_all, passed_under, all_passed}
use Rattle.row_map.proofs.purge_walk.PurgeWalk.next_expired.Goals as goal

pub returns-then-is_ge-clause-none : goal.returns-then-is_ge-clause-none
returns-then-is_ge-clause-none c =
    let rows = c.args.rows.now in
    let row = row_view c.in-Some.row.now in
    let walk = c.args.self.now in
    let least = c.loop-row.least in
    let so : RowView → Type 0 = λ r. is_among walk.low walk.high r ≡ true → Outlasts walk.moment least r in
    let walked = c.loop-row.invariant.walked in
    let left = c.next.new.self in
    let is : c.loop-row.row-iterator ≡ row ∷ left = search (rules, c.in-Some) in
    let split : filter (λ r. not (is_below walk.from r)) rows ≡ walked.front ++ row ∷ left = walked.split ∙ ap (λ l. walked.front ++ l) is in
    let before = all_implied (λ r. is_below walk.from r ≡ true → OutlastsAmong walk r) (λ r. not (is_below walk.from r) ≡ false → so r) rows (λ r passed e among. outlasts_lowered walk.moment walk.least least r c.loop-row.invariant.lower (passed (not-false (is_below walk.from r) e) among)) c.requires.passed in
    let front = all_implied (Outlasts walk.moment least) so walked.front (λ r lasts among. lasts) walked.good in
    let passed = passed_before (λ r. not (is_below walk.from r)) so rows walked.front left row c.from-row-items.ensures.rising split before front in
    let above : is_before (first_key walk.high) row ≡ false = search (rules, c.if-is_ge.true, c.is_ge.ensures, c.cmp.ensures, c.key_of_row-key.ensures, c.first_key-end.ensures) in
    rw (c.loop-row.invariant.moment, c.loop-row.invariant.low, c.loop-row.invariant.high)
    (all_implied (λ r. key_order r row ≡ Less → so r) so rows (λ r lower among. lower (below_stop (first_key walk.high) r row (and_parts (not (is_before (first_key walk.low) r)) (is_before (first_key walk.high) r) among).1 above) among) passed)

pub returns-then-is_ge-clause-passed : goal.returns-then-is_ge-clause-passed
returns-then-is_ge-clause-passed c =
    let walk = c.loop-row.self in
    all_passed (λ r. is_among walk.low walk.high r ≡ true → Outlasts walk.moment c.loop-row.least r) walk.from c.args.rows.now (returns-then-is_ge-clause-none c)

pub returns-then-expires-self-clause-expired : goal.returns-then-expires-self-clause-expired
returns-then-expires-self-clause-expired c =
    let rows = c.args.rows.now in
    let row = row_view c.in-Some.row.now in
    let walked = c.loop-row.invariant.walked in
    let left = c.next.new.self in
    let is : c.loop-row.row-iterator ≡ row ∷ left = search (rules, c.in-Some) in
    let split : filter (λ r. not (is_below c.args.self.now.from r)) rows ≡ walked.front ++ row ∷ left = walked.split ∙ ap (λ l. walked.front ++ l) is in
    let there = found_in (λ r. not (is_below c.args.self.now.from r)) rows walked.front left row c.from-row-items.ensures.rising split in
    let expired : is_valid_beyond c.args.self.now.moment row ≡ false = rw (← c.loop-row.invariant.moment) (search (rules, c.if-expires-self.true, c.expiry-expires.ensures)) in
    (row, there, expired)

pub returns-then-expires-self-clause-passed : goal.returns-then-expires-self-clause-passed
returns-then-expires-self-clause-passed c =
    let rows = c.args.rows.now in
    let row = row_view c.in-Some.row.now in
    let walk = c.args.self.now in
    let least = c.loop-row.least in
    let so : RowView → Type 0 = λ r. is_among walk.low walk.high r ≡ true → Outlasts walk.moment least r in
    let walked = c.loop-row.invariant.walked in
    let left = c.next.new.self in
    let is : c.loop-row.row-iterator ≡ row ∷ left = search (rules, c.in-Some) in
    let split : filter (λ r. not (is_below walk.from r)) rows ≡ walked.front ++ row ∷ left = walked.split ∙ ap (λ l. walked.front ++ l) is in
    let before = all_implied (λ r. is_below walk.from r ≡ true → OutlastsAmong walk r) (λ r. not (is_below walk.from r) ≡ false → so r) rows (λ r passed e among. outlasts_lowered walk.moment walk.least least r c.loop-row.invariant.lower (passed (not-false (is_below walk.from r) e) among)) c.requires.passed in
    let front = all_implied (Outlasts walk.moment least) so walked.front (λ r lasts among. lasts) walked.good in
    let passed = passed_before (λ r. not (is_below walk.from r)) so rows walked.front left row c.from-row-items.ensures.rising split before front in
    rw (c.loop-row.invariant.moment, c.loop-row.invariant.low, c.loop-row.invariant.high) (passed_under so c.key_of_row-key.result row rows c.key_of_row-key.ensures passed)

pub loop-row-preserved : goal.loop-row-preserved
loop-row-preserved c =
    let row = row_view c.in-Some.row.now in
    let moment = c.args.self.now.moment in
    let all = filter (λ r. not (is_below c.args.self.now.from r)) c.args.rows.now in
    let left = c.next.new.self in
    let is : c.loop-row.row-iterator ≡ row ∷ left = search (rules, c.in-Some) in
    let valid : is_valid_beyond moment row ≡ true = rw (← c.loop-row.invariant.moment) (search (rules, c.if-expires-self.false, c.expiry-expires.ensures)) in
    record {
      walked = walk_goes_on all left row moment c.loop-row.least c.min-least.result (omega (arith, c.min-least.ensures)) (omega (arith, c.min-least.ensures, c.expiry-expires.ensures)) valid (subst (λ l. HasWalked all l moment c.loop-row.least) is c.loop-row.invariant.walked);
      lower = omega (arith, c.min-least.ensures, c.loop-row.invariant.lower);
      moment = c.loop-row.invariant.moment;
      low = c.loop-row.invariant.low;
      high = c.loop-row.invariant.high;
    }

pub returns-clause-none : goal.returns-clause-none
returns-clause-none c =
    let rows = c.args.rows.now in
    let walk = c.args.self.now in
    let least = c.loop-row.least in
    let so : RowView → Type 0 = λ r. is_among walk.low walk.high r ≡ true → Outlasts walk.moment least r in
    let none : c.loop-row.row-iterator ≡ [] = search (rules, c.in-None) in
    let before = all_implied (λ r. is_below walk.from r ≡ true → OutlastsAmong walk r) (λ r. not (is_below walk.from r) ≡ false → so r) rows (λ r passed e among. outlasts_lowered walk.moment walk.least least r c.loop-row.invariant.lower (passed (not-false (is_below walk.from r) e) among)) c.requires.passed in
    let left = filter (λ r. not (is_below walk.from r)) rows in
    let good = all_implied (Outlasts walk.moment least) so left (λ r lasts among. lasts) (walk_ends left c.loop-row.row-iterator walk.moment least none c.loop-row.invariant.walked) in
    rw (c.loop-row.invariant.moment, c.loop-row.invariant.low, c.loop-row.invariant.high) (passed_all (λ r. not (is_below walk.from r)) so rows before good)

pub returns-clause-passed : goal.returns-clause-passed
returns-clause-passed c =
    let walk = c.loop-row.self in
    all_passed (λ r. is_among walk.low walk.high r ≡ true → Outlasts walk.moment c.loop-row.least r) walk.from c.args.rows.now (returns-clause-none c)
