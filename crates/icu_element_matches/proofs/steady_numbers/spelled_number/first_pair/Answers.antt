use Rattle.icu_element_matches.proofs.numbers.DigitRunLemmas.{odd_split, even_split}
use Rattle.icu_element_matches.proofs.steady_numbers.spelled_number.first_pair.Goals as goal

pub returns-then-digits-eq1 : goal.returns-then-digits-eq1
returns-then-digits-eq1 c = odd_split c.args.digits.now c.requires.decimal c.requires.first c.requires.some c.if-digits-eq1.true

pub returns-else-digits-eq1 : goal.returns-else-digits-eq1
returns-else-digits-eq1 c = even_split c.args.digits.now c.requires.decimal c.requires.first c.requires.some c.if-digits-eq1.false
