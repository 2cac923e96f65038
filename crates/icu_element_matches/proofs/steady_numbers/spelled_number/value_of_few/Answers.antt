use Rattle.std.proofs.Common.{arith}
use Rattle.icu_element_matches.proofs.numbers.DigitRunLemmas.{many_digits}
use Rattle.icu_element_matches.proofs.steady_numbers.spelled_number.value_of_few.Goals as goal

pub returns-then-digits-gt7 : goal.returns-then-digits-gt7
returns-then-digits-gt7 c = many_digits c.args.digits.now c.requires.first (omega arith)
