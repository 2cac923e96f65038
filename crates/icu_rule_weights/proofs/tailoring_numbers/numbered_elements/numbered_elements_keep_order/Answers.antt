-- The law on elements with numbers.
use Rattle.icu_rule_weights.proofs.tailoring_numbers.NumberedElementLemmas.{keep_order}
use Rattle.icu_rule_weights.proofs.tailoring_numbers.numbered_elements.numbered_elements_keep_order.Goals as goal

pub returns : goal.returns
returns c = keep_order
