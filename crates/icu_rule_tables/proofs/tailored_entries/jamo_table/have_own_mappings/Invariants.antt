use Rattle.std.proofs.Common.{◌≡◌, ℕ, ◌+◌, ◌<◌, false}
use Rattle.icu_table_provider.specs.Tables.{jamo_base}
use Rattle.icu_rule_steps.specs.symbolic_mappings.TouchedCharacters.{has_own_mappings}
use Rattle.icu_rule_tables.proofs.tailored_entries.jamo_table.have_own_mappings.Given as goal

-- none so far has mappings of its own
abbrev pub invariant-loop-place : goal.invariant-loop-place
invariant-loop-place g l = (k : ℕ) → k < l.place → has_own_mappings g.R.RootMappings.mappings_of l.mappings (jamo_base + k) ≡ false
