use Rattle.std.proofs.Common.{◌≡◌, drop}
use Rattle.ucd_table.specs.Rows.{in_ranges}
use Rattle.icu_table_mappings.proofs.digit_entries.have_code.Given as goal

-- the ranges that are left decide as all did at first
abbrev pub invariant-loop-range : goal.invariant-loop-range
invariant-loop-range l = in_ranges (drop l.range-index l.ranges) l.code ≡ in_ranges l.ranges l.code
