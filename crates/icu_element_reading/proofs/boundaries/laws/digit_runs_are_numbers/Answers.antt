use Rattle.icu_element_reading.proofs.boundaries.NumberRunLemmas.{elements_after-digits}
use Rattle.icu_element_reading.proofs.boundaries.laws.digit_runs_are_numbers.Goals as goal

pub returns : goal.returns
returns g = λ reading lead before d ds text is own all ends unmarked. elements_after-digits reading lead before d ds text is own all ends unmarked
