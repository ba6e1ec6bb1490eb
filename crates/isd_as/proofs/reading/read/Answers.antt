use Rattle.std.proofs.Common.{None, Some, refl, sym, ◌∙◌, inl, arith}
use Rattle.std.specs.Str.Parse.{digits_value}
use Rattle.std.proofs.lemmas.Bool.{both_ways}
use Rattle.std.proofs.lemmas.Result.{err_from_is_err_and}
use Rattle.std.proofs.lemmas.Str.Pattern.{split_parts}
use Rattle.isd_as.proofs.Digits.{number_read, number_refused}
use Rattle.isd_as.proofs.Grammar.{as_fails, says_cut, says_from}
use Rattle.isd_as.proofs.reading.read.Goals as goal

pub returns-in_default : goal.returns-in_default
returns-in_default c g = says_cut c.args.text.now g.isd g.number None c.in_default.ensures.cases g.says

pub returns-then-not-is_decimal : goal.returns-then-not-is_decimal
returns-then-not-is_decimal c g =
    let cut = says_cut c.args.text.now g.isd g.number (Some (c.in-Some.front, c.in-Some.back)) c.in-Some.ensures.cases g.says in
    both_ways _ c.if-not-is_decimal.true (c.is_decimal.ensures.1 cut.0.0)

pub returns-in_err-asn : goal.returns-in_err-asn
returns-in_err-asn c =
    let p = err_from_is_err_and c.from_residual.result c.from_residual.ensures.1 in
    let decimal = c.is_decimal.ensures.0 c.if-not-is_decimal.false in
    rw (p.1, p.2) (as_fails c.args.text.now c.in-Some.front c.in-Some.back _ c.in-Some.ensures.cases decimal c.in_err-asn.ensures.reads)

pub returns-in-Ok : goal.returns-in-Ok
returns-in-Ok c =
    let text = c.args.text.now in
    let decimal = c.is_decimal.ensures.0 c.if-not-is_decimal.false in
    let parts = split_parts 45 text (Some (c.in-Some.front, c.in-Some.back)) c.in-Some.ensures.cases (omega arith) in
    let isd = number_read 16 10 c.in-Some.front.now c.in-Ok.isd (omega arith) decimal c.in-Ok.ensures.value.0 in
    let found = c.in_ok-asn.ensures.reads in
    record {
      number = found.number;
      says = says_from text c.in-Some.front.now c.in-Some.back.now c.new.result.isd found.number parts.0 (decimal, isd.0 ∙ sym c.new.ensures.isd) found.says;
      isd = omega (arith, isd.1, c.new.ensures.isd);
      fits = found.fits;
      asn = c.new.ensures.asn ∙ found.number_is;
    }

pub returns-in-Err : goal.returns-in-Err
returns-in-Err c =
    let text = c.args.text.now in
    let front = c.in-Some.front.now in
    let decimal = c.is_decimal.ensures.0 c.if-not-is_decimal.false in
    let parts = split_parts 45 text (Some (c.in-Some.front, c.in-Some.back)) c.in-Some.ensures.cases (omega arith) in
    let found = c.in_ok-asn.ensures.reads in
    record {
      isd = digits_value 10 front;
      number = found.number;
      says = says_from text front c.in-Some.back.now (digits_value 10 front) found.number parts.0 (decimal, refl) found.says;
      large = inl (number_refused 16 10 front (omega arith) decimal c.in-Err.ensures.value.0);
    }
