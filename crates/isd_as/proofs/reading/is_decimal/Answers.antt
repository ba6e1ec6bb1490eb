use Rattle.std.proofs.Common.{rules, tests, arith}
use Rattle.std.specs.Char.{is_ascii_digit}
use Rattle.std.proofs.lemmas.Bool.Decides.{Decides-at, nat_tests}
use Rattle.std.proofs.lemmas.Iterator.Adapters.{YieldsList-from_bytes}
use Rattle.std.proofs.lemmas.Iterator.Search.{all_from_yields_List}
use Rattle.isd_as.proofs.Digits.{decimal_digits_decide}
use Rattle.isd_as.proofs.reading.is_decimal.Goals as goal

pub returns-then-not-is_empty : goal.returns-then-not-is_empty
returns-then-not-is_empty c =
    let text = c.args.text.now in
    let all = all_from_yields_List is_ascii_digit _ _ c.all.result c.all.ensures.ran (YieldsList-from_bytes text cc) (λ x b q k. search (rules, tests)) in
    let decides = Decides-at _ _ all (decimal_digits_decide text) in
    (λ h. (grind (arith, nat_tests), decides.0 h), λ h. decides.1 h.1)
