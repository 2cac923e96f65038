-- The root and the entries that were made.
use Rattle.std.proofs.Common.{◌≡◌, ℕ, List, sym, subst}
use Rattle.icu_table_data.specs.Data.{Data}
use Rattle.icu_table_data.specs.StoredData.{data_of}
use Rattle.icu_table_provider.specs.builder.Building.{built_data}
use Rattle.icu_table_provider.specs.builder.OwnedData.{vectors_data}
use Rattle.icu_table_provider.specs.StoredTables.{jamo_of}
use Rattle.icu_rule_tables.specs.tailored_entries.TailoredJamo.{TailorsJamo}
use Rattle.icu_rule_tables.specs.tailored_entries.inner.RootLists.{with_value_of}
use Rattle.icu_rule_tables.proofs.tailored_entries.JamoTableLemmas.{jamo_made}
use Rattle.icu_rule_tables.proofs.tailored_entries.jamo_table.made_jamo.Goals as goal

pub returns : goal.returns
returns g c =
    let root = g.R.RootMappings.mappings_of in
    let t = c.args.numbers.now in
    let held = c.args.mappings.now in
    let over : Data = data_of c.args.root in
    let built : Data = vectors_data c.in_ok-build.field-0 in
    let own : List ℕ = c.in_ok-ce32s.ce32s.items in
    subst (λ (d : Data). TailorsJamo root t held over (jamo_of c.args.jamo) d own) (sym c.in_ok-root.ensures)
    (subst (λ (js : List ℕ). TailorsJamo root t held over js (with_value_of over built) own) c.ce32s.ensures.value
    (jamo_made root t held over (built_data c.in_ok-builder.builder) (built_data c.jamo_entries.new.builder) built c.ce32s.result.now own
    c.in_ok-builder.ensures c.in_ok-ce32s.ensures.extends c.in_ok-build.ensures.says c.in_ok-ce32s.ensures.count c.in_ok-ce32s.ensures.entries))
