-- What is alike behind the weights that were passed, and these, are all.
use Rattle.std.proofs.Common.{◌≡◌, ◌+◌, ◌-◌, ◌≤◌, drop, length}
use Rattle.icu_order_texts.specs.level_weights.CommonWeights.{common_length}
use Rattle.text_reasons.proofs.parts_apart.alike_characters.Given as goal

abbrev pub invariant-alike : goal.invariant-alike
invariant-alike l = record {
  one_has : l.alike ≤ length l.one;
  other_has : l.alike ≤ length l.other;
  whole : common_length (drop l.alike l.one) (drop l.alike l.other) + l.alike ≡ common_length l.one l.other;
}

abbrev pub decreases-alike : goal.decreases-alike
decreases-alike l = length l.one - l.alike
