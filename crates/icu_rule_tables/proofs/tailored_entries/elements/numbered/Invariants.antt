use Rattle.std.proofs.Common.{◌≡◌, true, map, take}
use Rattle.icu_rule_weights.specs.tailoring_numbers.NumberedElements.{numbered_element}
use Rattle.icu_rule_tables.specs.tailored_entries.GivenMappings.{all_fit}
use Rattle.icu_rule_tables.proofs.tailored_entries.elements.numbered.Given as goal

abbrev pub invariant-loop-element : goal.invariant-loop-element
invariant-loop-element l = record {
  elements : l.found.items ≡ map (numbered_element l.numbers) (take l.element-index l.elements);
  fits : all_fit l.numbers (take l.element-index l.elements) ≡ true;
}
