use Rattle.std.proofs.Common.{rules, tests, arith}
use Rattle.std.specs.Char.{is_ascii_hexdigit}
use Rattle.std.proofs.lemmas.Bool.{both_ways}
use Rattle.std.proofs.lemmas.Bool.Decides.{Decides-at}
use Rattle.std.proofs.lemmas.Iterator.Adapters.{YieldsList-from_bytes}
use Rattle.std.proofs.lemmas.Iterator.Search.{all_from_yields_List}
use Rattle.isd_as.proofs.Digits.{hex_digits_decide, hex_group_read}
use Rattle.isd_as.proofs.reading.hex_group.Goals as goal
use Rattle.isd_as.proofs.reading.hex_group.Goals.{else-text-le4-via-then-text-le4+else-all, else-text-le4-via-else-text-le4}

pub returns-then-all-clause-none : goal.returns-then-all-clause-none
returns-then-all-clause-none c = hex_group_read c.args.text.now c.from_str_radix.result c.ok.result c.from_str_radix.ensures.value c.ok.ensures.value

-- a text that is too long, or has a byte that is no digit, is no group
pub returns-else-text-le4-clause-none : goal.returns-else-text-le4-clause-none
returns-else-text-le4-clause-none c n h =
    let text = c.args.text.now in
    elim c.else-text-le4.branch [
      | else-text-le4-via-then-text-le4+else-all w ↦
          let all = all_from_yields_List is_ascii_hexdigit _ _ w.all.result w.all.ensures.ran (YieldsList-from_bytes text cc) (λ x b q k. search (rules, tests)) in
          let decides = Decides-at _ _ all (hex_digits_decide text) in
          both_ways _ w.if-all.false (decides.1 h.numeral.1)
      | else-text-le4-via-else-text-le4 w ↦ omega (arith, h.short)
    ]
