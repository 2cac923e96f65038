-- What stands before the bytes behind the digits are the digits.
use Rattle.std.proofs.Common.{◌≡◌, ◌-◌, ◌∙◌, ap, length, take, rules}
use Rattle.line_sorts.specs.fields.LineFields.{drop_while}
use Rattle.line_sorts.specs.fields.NumberKeys.{is_digit}
use Rattle.line_sorts.proofs.fields.PassingLemmas.{taken_before}
use Rattle.line_sorts.proofs.fields.number_key.digits_of.Goals as goal

pub returns : goal.returns
returns c =
    let bytes = c.args.bytes.now in
    let left : c.saturating_sub.result ≡ length bytes - length (drop_while is_digit bytes) = search rules in
    ap (λ n. take n bytes) left ∙ taken_before is_digit bytes
