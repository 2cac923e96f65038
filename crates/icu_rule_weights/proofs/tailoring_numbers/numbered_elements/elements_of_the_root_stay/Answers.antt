-- The law on elements of the root.
use Rattle.icu_rule_weights.proofs.tailoring_numbers.NumberedElementLemmas.{root_stays}
use Rattle.icu_rule_weights.proofs.tailoring_numbers.numbered_elements.elements_of_the_root_stay.Goals as goal

pub returns : goal.returns
returns c = root_stays
