use Rattle.std.proofs.Common.{◌≡◌, ◌≤◌, ◌*◌, length, Ok, subst, arith}
use Rattle.std.proofs.lemmas.Result.{err_from_is_err_and}
use Rattle.hex.specs.Hex.{decode_of}
use Rattle.cli_once.specs.HexInput.{RefusesDigits}
use Rattle.seg_check.specs.declared.keyed.TheConstants.{MOST_KEY}
use Rattle.cli_once.proofs.Digits.{too_long, short_key, refuses_key}
use Rattle.cli_once.proofs.key.key_of.Goals as goal

pub returns-then-digits-clause-err : goal.returns-then-digits-clause-err
returns-then-digits-clause-err c = too_long c.args.text.now (omega (arith, c.if-digits.true, c.as_bytes-digits.ensures.len))

pub returns-in_err-key-clause-err : goal.returns-in_err-key-clause-err
returns-in_err-key-clause-err c =
    let short : length c.args.text.now ≤ 2 * MOST_KEY = omega (arith, c.if-digits.false, c.as_bytes-digits.ensures.len) in
    let p = err_from_is_err_and c.from_residual.result c.from_residual.ensures.1 in
    let refused = subst (λ digits. RefusesDigits digits c.in_err-key.field-0.0) c.as_bytes-digits.ensures.value c.in_err-key.ensures.err in
    rw (p.1, p.2) (refuses_key c.args.text.now c.in_err-key.field-0.0 short refused)

pub new-requires : goal.new-requires
new-requires c =
    let short : length c.args.text.now ≤ 2 * MOST_KEY = omega (arith, c.if-digits.false, c.as_bytes-digits.ensures.len) in
    short_key c.args.text.now c.in_ok-key.key.items short (subst (λ digits. decode_of digits ≡ Ok c.in_ok-key.key.items) c.as_bytes-digits.ensures.value c.in_ok-key.ensures.ok)
