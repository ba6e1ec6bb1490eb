use Rattle.std.proofs.Common.{Some, None, Ok, arith, sym}
use Rattle.std.proofs.lemmas.Result.{err_from_is_err_and}
use Rattle.pw_wire.proofs.NextField.{Answers, is_nothing, is_something, answers_fault, some_read, finds, fails, steps}
use Rattle.pw_wire.proofs.reading.next_field.Goals as goal

-- where the first field fails, the call answers its fault
failed : (c : goal.After-from_residual) → Answers c.args.bytes.now c.from_residual.result
failed c =
    let p = err_from_is_err_and c.from_residual.result c.from_residual.ensures.1 in
    answers_fault c.args.bytes.now c.from_residual.result p.0 c.in_err-first_field.field-0.0 (is_something c.args.bytes.now c.is_empty.result c.is_empty.ensures c.if-is_empty.false) p.1 p.2 c.in_err-first_field.ensures.exact

-- the call answers a field that was short
short : (c : goal.In-Some) → Answers c.args.bytes.now (Ok (Some c.in-Some.found))
short c = c.short_field.ensures c.in-Some.found c.in-Some.is

pub returns-in-Some-clause-none : goal.returns-in-Some-clause-none
returns-in-Some-clause-none c = (λ is. absurd cc, λ none. absurd (some_read c.args.bytes.now c.in-Some.found (short c) none))

pub returns-in-Some-clause-field : goal.returns-in-Some-clause-field
returns-in-Some-clause-field c = finds c.args.bytes.now (Ok (Some c.in-Some.found)) (λ i. omega (arith, c.type_inv.bytes i)) (short c)

pub returns-in-Some-clause-fault : goal.returns-in-Some-clause-fault
returns-in-Some-clause-fault c = fails c.args.bytes.now (Ok (Some c.in-Some.found)) (λ i. omega (arith, c.type_inv.bytes i)) (short c)

pub returns-in-Some-clause-steps : goal.returns-in-Some-clause-steps
returns-in-Some-clause-steps c = steps c.args.bytes.now (Ok (Some c.in-Some.found)) (λ i. omega (arith, c.type_inv.bytes i)) (short c)

pub returns-then-is_empty-clause-steps : goal.returns-then-is_empty-clause-steps
returns-then-is_empty-clause-steps c = steps c.args.bytes.now (Ok None) (λ i. omega (arith, c.type_inv.bytes i)) (is_nothing c.args.bytes.now c.is_empty.result c.is_empty.ensures c.if-is_empty.true)

pub returns-in_err-first_field-clause-field : goal.returns-in_err-first_field-clause-field
returns-in_err-first_field-clause-field c = finds c.args.bytes.now c.from_residual.result (λ i. omega (arith, c.type_inv.bytes i)) (failed c)

pub returns-in_err-first_field-clause-fault : goal.returns-in_err-first_field-clause-fault
returns-in_err-first_field-clause-fault c = fails c.args.bytes.now c.from_residual.result (λ i. omega (arith, c.type_inv.bytes i)) (failed c)

pub returns-in_err-first_field-clause-steps : goal.returns-in_err-first_field-clause-steps
returns-in_err-first_field-clause-steps c = steps c.args.bytes.now c.from_residual.result (λ i. omega (arith, c.type_inv.bytes i)) (failed c)

pub returns-clause-field : goal.returns-clause-field
returns-clause-field c = finds c.args.bytes.now (Ok (Some c.in_ok-first_field.field-0)) (λ i. omega (arith, c.type_inv.bytes i)) (sym c.in_ok-first_field.ensures.exact)

pub returns-clause-fault : goal.returns-clause-fault
returns-clause-fault c = fails c.args.bytes.now (Ok (Some c.in_ok-first_field.field-0)) (λ i. omega (arith, c.type_inv.bytes i)) (sym c.in_ok-first_field.ensures.exact)

pub returns-clause-steps : goal.returns-clause-steps
returns-clause-steps c = steps c.args.bytes.now (Ok (Some c.in_ok-first_field.field-0)) (λ i. omega (arith, c.type_inv.bytes i)) (sym c.in_ok-first_field.ensures.exact)
