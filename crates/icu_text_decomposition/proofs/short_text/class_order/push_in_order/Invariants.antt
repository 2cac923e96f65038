use Rattle.std.proofs.Common.{◌≡◌, ◌≤◌, ◌-◌, ◌++◌, length, drop}
use Rattle.unicode_normalization.specs.Order.{canonical_order}
use Rattle.icu_text_decomposition.specs.short_text.ArrayTexts.{array_unread}
use Rattle.icu_text_decomposition.proofs.short_text.class_order.push_in_order.Given as goal

-- what stands before the place is appended in order
abbrev pub invariant-parts : goal.invariant-parts
invariant-parts g l = record {
  inside : l.at ≤ length l.chars;
  left : array_unread l.text ++ canonical_order (drop l.at l.chars) ≡ array_unread l.fn.text ++ canonical_order l.chars;
}

abbrev pub decreases-parts : goal.decreases-parts
decreases-parts g l = length l.chars - l.at
