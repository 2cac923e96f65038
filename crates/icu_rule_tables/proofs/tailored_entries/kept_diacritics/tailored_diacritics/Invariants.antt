use Rattle.std.proofs.Common.{◌≡◌, ◌+◌, ◌≤◌, length}
use Rattle.icu_table_data.specs.DataConditions.{diacritics_base}
use Rattle.icu_rule_tables.specs.tailored_entries.TailoredDiacritics.{TailorDiacriticsBelow}
use Rattle.icu_rule_tables.proofs.tailored_entries.kept_diacritics.tailored_diacritics.Given as goal

-- the weights so far, and the next character
abbrev pub invariant-loop-secondary : goal.invariant-loop-secondary
invariant-loop-secondary g l = record {
  code : l.code ≡ diacritics_base + l.secondary-index;
  small : l.code ≤ 0x110000;
  count : length l.found.items ≡ l.secondary-index;
  weights : TailorDiacriticsBelow g.R.RootMappings.mappings_of l.numbers l.mappings l.root l.secondary-index l.found.items;
}
