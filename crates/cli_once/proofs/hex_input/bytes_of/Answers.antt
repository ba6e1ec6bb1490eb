use Rattle.std.proofs.Common.{rules, not, ◌≡◌, ◌∙◌, subst}
use Rattle.std.specs.Prelude.{IfErr}
use Rattle.std.proofs.lemmas.Fn.{filter_same}
use Rattle.cli_once.specs.HexInput.{is_blank, without_blanks, RefusesDigits}
use Rattle.cli_once.proofs.hex_input.bytes_of.Goals as goal

-- the blanks go
pub returns-clause-ok : goal.returns-clause-ok
returns-clause-ok c =
    let kept : c.retain.new.self.items ≡ without_blanks c.args.text.items =
    filter_same _ (λ byte. not (is_blank byte)) _ (λ x b f called. search rules) c.args.text.items c.retain.new.self.items c.retain.ensures.filtered in
    rw (← kept, ← c.as_slice.ensures.value) c.bytes_of_digits.ensures.ok

pub returns-clause-err : goal.returns-clause-err
returns-clause-err c =
    let kept : c.retain.new.self.items ≡ without_blanks c.args.text.items =
    filter_same _ (λ byte. not (is_blank byte)) _ (λ x b f called. search rules) c.args.text.items c.retain.new.self.items c.retain.ensures.filtered in
    subst (λ digits. IfErr c.bytes_of_digits.result (RefusesDigits digits)) (c.as_slice.ensures.value ∙ kept) c.bytes_of_digits.ensures.err
