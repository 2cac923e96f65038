-- What stands before the bytes behind the blanks are the blanks.
use Rattle.std.proofs.Common.{◌≡◌, ◌-◌, ◌∙◌, ap, length, take, rules}
use Rattle.line_sorts.specs.fields.LineFields.{drop_while, is_blank_byte}
use Rattle.line_sorts.proofs.fields.PassingLemmas.{taken_before}
use Rattle.line_sorts.proofs.fields.shown_part.blanks_before.Goals as goal

pub returns : goal.returns
returns c =
    let text = c.args.text.now in
    let left : c.saturating_sub.result ≡ length text - length (drop_while is_blank_byte text) = search rules in
    ap (λ n. take n text) left ∙ taken_before is_blank_byte text
