use Rattle.std.proofs.Common.{◌≡◌}
use Rattle.icu_element_cursor.specs.FactsCursors.{facts_reading}
use Rattle.icu_collator.specs.declared.forward_levels.Level.TheVariants.{Primary}
use Rattle.icu_collator.specs.inner.InStep.{three_levels}
use Rattle.icu_collator.proofs.FactsInStepLemmas.{LeavesOrder}
use Rattle.icu_collator.proofs.facts_in_step.order_in_step.Given as goal

-- what is left orders as the whole, and is read alike
abbrev pub invariant-pairs : goal.invariant-pairs
invariant-pairs g l = record {
  leaves : LeavesOrder g.L.EncodedText.text g.R.EncodedText.text (three_levels (Primary l.reordering) l.form) l.fn.left l.fn.right l.third l.left l.right;
  reading : facts_reading l.left ≡ facts_reading l.right;
}
