use Rattle.std.proofs.Common.{◌≡◌, ℕ, length}
use Rattle.icu_table_weights.specs.WeightSets.{page_of}
use Rattle.icu_table_weights.proofs.weight_set.reach_lead.Given as goal

-- there are as many pages as were gone through, and the new ones have no words
abbrev pub invariant-loop-index : goal.invariant-loop-index
invariant-loop-index l = record {
  len : length l.pages.items ≡ l._index;
  same : (lead : ℕ) → page_of l.pages.items lead ≡ page_of l.fn.pages.items lead;
}
