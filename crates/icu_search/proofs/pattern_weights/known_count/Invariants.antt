use Rattle.std.proofs.Common.{◌≤◌}
use Rattle.icu_collator.specs.Collators.{collation_borrowed}
use Rattle.icu_element_cursor.specs.FactsCursors.{facts_give}
use Rattle.icu_search.proofs.FirstWeightLemmas.{ReadFirst}
use Rattle.icu_search.proofs.pattern_weights.known_count.Given as goal

-- what was read of the text, by so many steps at most
abbrev pub invariant-loop : goal.invariant-loop
invariant-loop l = record {
  inside : l.met ≤ l.counter;
  read : ReadFirst (collation_borrowed l.collator) l.text (facts_give (λ t. t.0.now) l.cursor) l.met;
}
