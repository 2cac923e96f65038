use Rattle.std.proofs.Common.{◌≡◌, ◌≤◌, ◌+◌, ◌-◌}
use Rattle.icu_table_mappings.specs.DigitEntries.{digits_before}
use Rattle.icu_table_mappings.proofs.digit_entries.digits_before.Given as goal

abbrev pub invariant-counting : goal.invariant-counting
invariant-counting l = record {
  inside : l.start ≤ l.code;
  counted : digits_before l.code ≡ (l.code - l.start) + digits_before l.start;
}

abbrev pub decreases-counting : goal.decreases-counting
decreases-counting l = l.start
