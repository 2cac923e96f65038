use Rattle.std.proofs.Common.{◌≡◌, ◌≤◌, ◌-◌, true, length, drop}
use Rattle.unicode_normalization.specs.Order.{is_ordered}
use Rattle.icu_text_decomposition.proofs.short_text.class_order.are_all_in_order.Given as goal

-- what stands from the character before the place on is in order
abbrev pub invariant-back : goal.invariant-back
invariant-back l = record {
  inside : l.at ≤ length l.chars;
  ordered : is_ordered (drop (l.at - 1) l.chars) ≡ true;
}

abbrev pub decreases-back : goal.decreases-back
decreases-back l = l.at
