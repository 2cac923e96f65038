-- No jamo has mappings of its own.
use Rattle.std.proofs.Common.{◌≡◌, ◌+◌, ◌<◌, ℕ, false, subst, rules}
use Rattle.std.specs.Bool.{MatchBool}
use Rattle.icu_table_data.specs.StoredData.{data_of}
use Rattle.icu_table_provider.specs.Jamo.{jamo_count}
use Rattle.icu_table_provider.specs.StoredTables.{jamo_of}
use Rattle.icu_table_provider.specs.Tables.{jamo_base}
use Rattle.icu_rule_steps.specs.symbolic_mappings.TouchedCharacters.{has_own_mappings}
use Rattle.icu_rule_tables.proofs.tailored_entries.JamoTableLemmas.{none_tailored}
use Rattle.icu_rule_tables.proofs.tailored_entries.jamo_table.tailored_jamo.Goals as goal

pub returns-then-not-branch : goal.returns-then-not-branch
returns-then-not-branch g c =
    let root = g.R.RootMappings.mappings_of in
    let held = c.args.mappings.now in
    let none : c.in_ok-have_own_mappings.field-0 ≡ false = search rules in
    none_tailored root c.args.numbers.now held (data_of c.args.root) (jamo_of c.args.jamo) c.args.jamo.is_jamo.count
    (subst (λ b. MatchBool b (Unit {0}) ((k : ℕ) → k < jamo_count → has_own_mappings root held (jamo_base + k) ≡ false)) none c.in_ok-have_own_mappings.ensures)
