use Rattle.std.proofs.Common.{◌≡◌, ◌||◌, ℕ, drop}
use Rattle.icu_rule_meaning.specs.Rules.{have_character}
use Rattle.icu_rule_tables.proofs.tailored_entries.merged_ranges.merged_ranges.Given as goal

-- those so far, and those left, have the characters of all
abbrev pub invariant-loop-range : goal.invariant-loop-range
invariant-loop-range l = (x : ℕ) → (have_character l.merged.items x || have_character (drop l.range-index l.range-items) x) ≡ have_character l.range-items x
