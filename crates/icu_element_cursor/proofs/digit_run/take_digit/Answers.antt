use Rattle.std.proofs.Common.{◌∷◌, ap, sym, ◌∙◌}
use Rattle.icu_element_cursor.proofs.digit_run.take_digit.Goals as goal

pub returns-clause-digit : goal.returns-clause-digit
returns-clause-digit g c = record {
  char = c.from.result;
  parts = c.in_ok-byte.ensures.first ∙ ap (λ b. b ∷ g.T.EncodedText.text c.in_ok-byte.rest) (sym c.from.ensures);
  is = c.in_ok-digit.ensures;
}
