use Rattle.clap.specs.Words.{found_of}
use Rattle.cli_words.proofs.Numbers.{plain_none, plain_some}
use Rattle.cli_words.proofs.reading.check_number.Goals as goal

pub returns-in_default : goal.returns-in_default
returns-in_default c = plain_none (found_of c.args.options.now) c.args.name.now c.get_str.result c.get_str.ensures c.in_default.is

pub returns-then-is_digits : goal.returns-then-is_digits
returns-then-is_digits c =
    plain_some (found_of c.args.options.now) c.args.name.now c.get_str.result c.get_str.ensures c.in-Some.text c.in-Some.is (c.is_digits.ensures.0 c.if-is_digits.true)
