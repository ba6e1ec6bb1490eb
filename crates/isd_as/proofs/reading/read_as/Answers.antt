-- Decimal digits denote a decimal AS, which fits where the digits are parsed, and is too large
-- otherwise.
use Rattle.std.proofs.Common.{refl, arith}
use Rattle.std.specs.Str.Parse.{digits_value}
use Rattle.isd_as.specs.Text.{Decimal, Groups}
use Rattle.isd_as.proofs.Digits.{number_read, number_refused}
use Rattle.isd_as.proofs.reading.read_as.Goals as goal

pub returns-in-Ok-clause-reads : goal.returns-in-Ok-clause-reads
returns-in-Ok-clause-reads c =
    let decimal = c.is_decimal.ensures.0 c.if-is_decimal.true in
    let read = number_read 32 10 c.args.text.now c.in-Ok.asn (omega arith) decimal c.in-Ok.ensures.value.0 in
    record { number = Decimal c.in-Ok.asn; says = (decimal, read.0); fits = read.1; number_is = c.from.ensures }

pub returns-in-Err-clause-reads : goal.returns-in-Err-clause-reads
returns-in-Err-clause-reads c =
    let text = c.args.text.now in
    let decimal = c.is_decimal.ensures.0 c.if-is_decimal.true in
    record {
      number = Decimal (digits_value 10 text);
      says = (decimal, refl);
      large = number_refused 32 10 text (omega arith) decimal c.in-Err.ensures.value.0;
    }

pub returns-in-Some-clause-reads : goal.returns-in-Some-clause-reads
returns-in-Some-clause-reads c = record {
  number = Groups c.in-Some.high c.in-Some.middle c.in-Some.low;
  says = c.in-Some.ensures.found;
  fits = tt;
  number_is = c.joined.ensures;
}
