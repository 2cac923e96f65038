use Rattle.std.proofs.Common.{ℕ, true, ◌≡◌, ◌/◌, ◌^◌, ◌<◌, ◌≤◌}
use Rattle.icu_table_provider.specs.SpecialPrimaries.{is_compressible}
use Rattle.icu_table_provider.specs.StoredTables.{special_of}
use Rattle.icu_rule_weights.proofs.primary_runs.has_compressible.Given as goal

abbrev pub invariant-loop-lead : goal.invariant-loop-lead
invariant-loop-lead l = (b : ℕ) → l.low / 2 ^ 24 ≤ b → b < l.lead → is_compressible (special_of l.special) b ≡ true → ⊥
