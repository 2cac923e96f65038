use Rattle.std.proofs.Common.{◌≡◌, ◌≤◌, ◌<◌, ℕ, All, length}
use Rattle.icu_order_levels.specs.Numbers.{without_first_zeros}
use Rattle.icu_element_cursor.proofs.digit_run.without_zeros.Given as goal

-- nothing but zeros was dropped
abbrev pub invariant-zeros : goal.invariant-zeros
invariant-zeros l = record {
  kept : without_first_zeros l.kept ≡ without_first_zeros l.digits;
  decimal : All (λ (d : ℕ). d < 10) l.kept;
  fewer : length l.kept ≤ length l.digits;
}

abbrev pub decreases-zeros : goal.decreases-zeros
decreases-zeros l = length l.kept
