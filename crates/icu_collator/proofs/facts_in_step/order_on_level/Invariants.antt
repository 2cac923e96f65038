use Rattle.std.proofs.Common.{◌≡◌, ℕ, List}
use Rattle.icu_element_cursor.specs.FactsCursors.{facts_reading}
use Rattle.icu_order_levels.specs.ListOrder.{list_order}
use Rattle.icu_collator.specs.inner.FactsInStep.{plain_left, weights_from}
use Rattle.icu_collator.specs.inner.InStep.{order_from}
use Rattle.icu_collator.specs.inner.LevelWeights.{level_weights}
use Rattle.icu_collator.proofs.facts_in_step.order_on_level.Given as goal

-- what is left, from these weights on, orders as the whole, and is read alike
abbrev pub invariant-weights : goal.invariant-weights
invariant-weights g l = record {
  orders : (b d : List ℕ) → (b' : List ℕ) × (d' : List ℕ)
      × (order_from l.level l.fn.pair.0 l.fn.pair.1 (plain_left g.L.EncodedText.text l.fn.left b) (plain_left g.R.EncodedText.text l.fn.right d)
      ≡ list_order (weights_from l.weight (level_weights l.level (plain_left g.L.EncodedText.text l.left b'))) (weights_from l.other_weight (level_weights l.level (plain_left g.R.EncodedText.text l.right d'))));
  reading : facts_reading l.left ≡ facts_reading l.right;
}
