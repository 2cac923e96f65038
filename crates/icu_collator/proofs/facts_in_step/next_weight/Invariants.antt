use Rattle.std.proofs.Common.{◌≡◌, ℕ, List}
use Rattle.icu_element_cursor.specs.FactsCursors.{facts_reading}
use Rattle.icu_collator.specs.inner.FactsInStep.{plain_left}
use Rattle.icu_collator.specs.inner.LevelWeights.{level_weights}
use Rattle.icu_collator.proofs.facts_in_step.next_weight.Given as goal

-- the elements that were passed over have no weights, and what follows is read alike
abbrev pub invariant-passing : goal.invariant-passing
invariant-passing g l = record {
  weights : (before : List ℕ) → (after : List ℕ)
      × (level_weights l.level (plain_left g.T.EncodedText.text l.fn.text before) ≡ level_weights l.level (plain_left g.T.EncodedText.text l.text after));
  reading : facts_reading l.text ≡ facts_reading l.fn.text;
}
