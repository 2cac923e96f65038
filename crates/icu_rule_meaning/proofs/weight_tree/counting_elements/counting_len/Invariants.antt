use Rattle.std.proofs.Common.{◌≡◌, ◌≤◌, length, take}
use Rattle.icu_rule_meaning.specs.Steps.{counting_at}
use Rattle.icu_rule_meaning.proofs.weight_tree.counting_elements.counting_len.Given as goal

abbrev pub decreases-loop-kept : goal.decreases-loop-kept
decreases-loop-kept l = l.kept

abbrev pub invariant-loop-kept : goal.invariant-loop-kept
invariant-loop-kept l = record {
  few : l.kept ≤ length l.elements;
  counting : counting_at l.level (take l.kept l.elements) ≡ counting_at l.level l.elements;
}
