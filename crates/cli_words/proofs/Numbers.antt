-- The values of options, by the rows of what was found.
use Rattle.std.proofs.Common.{◌≡◌, ℕ, List, Option, Some, None, IfSome, sym, ◌∙◌, ap, subst}
use Rattle.std.specs.List.{AllPass}
use Rattle.std.specs.Prelude.{option_map}
use Rattle.std.specs.Borrow.{Bor}
use Rattle.clap.specs.Lexer.{is_digit}
use Rattle.clap.specs.declared.parser.matches.Found.{Found}
use Rattle.clap.specs.Words.{Text, first_value, rows_of}
use Rattle.clap.proofs.WalkLemmas.{first_value-rows}
use Rattle.cli_words.specs.Numbers.{IsPlainNumber}

module _ (found : Found) (name : Text) (text : Option (Bor (List ℕ))) (is : option_map (λ s. s.now) text ≡ first_value found name) where
  plain_so : (value : Option (List ℕ)) → option_map (λ (s : Bor (List ℕ)). s.now) text ≡ value → IfSome value (AllPass is_digit) → IsPlainNumber (rows_of found) name
  plain_so value same plain =
      subst (λ (v : Option (List ℕ)). IfSome v (AllPass is_digit)) (sym same ∙ is ∙ first_value-rows found name) plain

  -- an option that is not there
  pub plain_none : text ≡ None → IsPlainNumber (rows_of found) name
  plain_none none = plain_so None (ap (option_map (λ (s : Bor (List ℕ)). s.now)) none) tt

  -- one that is decimal digits
  pub plain_some : (given : Bor (List ℕ)) → text ≡ Some given → AllPass is_digit given.now → IsPlainNumber (rows_of found) name
  plain_some given some digits = plain_so (Some given.now) (ap (option_map (λ (s : Bor (List ℕ)). s.now)) some) digits
