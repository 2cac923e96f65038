use Rattle.std.proofs.Common.{rules, ◌≡◌, ◌≢◌, ◌%◌, None, arith, sym, ap, ◌∙◌}
use Rattle.icu_table_entries.specs.Elements.{of_primary}
use Rattle.icu_table_provider.specs.Reorderings.{lead_byte}
use Rattle.icu_table_provider.specs.CollatorTables.{CollatorTables}
use Rattle.icu_table_provider.specs.TableSets.{tables_in}
use Rattle.icu_table_check.specs.inner.EntryViolations.{first_condition_failed, KeepsLeadTogether}
use Rattle.icu_table_check.proofs.RunLemmas.{between_passes}
use Rattle.icu_table_check.proofs.check.entry_judge.passes_between.Goals as goal

pub returns-in-None-first_condition_failed : goal.returns-in-None-first_condition_failed
returns-in-None-first_condition_failed c ran p low high =
    let all : CollatorTables = tables_in c.args.tables in
    let some : c.args.least ≢ 0 = search rules in
    let whole_bytes : c.args.least % 256 ≡ 0 = omega arith in
    let one_lead : lead_byte c.args.least ≡ lead_byte c.args.greatest = search rules in
    let whole : KeepsLeadTogether all.reordering (lead_byte c.args.least) = search rules in
    let least : first_condition_failed all (of_primary c.args.least) ≡ None =
    ap (first_condition_failed all) (sym c.new_from_primary.ensures) ∙ sym c.first_condition_failed.ensures ∙ c.in-None.is in
    let greatest : first_condition_failed all (of_primary c.args.greatest) ≡ None =
    ap (first_condition_failed all) (sym c.new_from_primary-in-None.ensures) ∙ sym c.first_condition_failed-in-None.ensures ∙ c.in-None-first_condition_failed.is in
    between_passes all c.args.least c.args.greatest p some whole_bytes one_lead whole least greatest low high
