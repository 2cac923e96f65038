-- The law, by what the calls ensure.
use Rattle.std.proofs.Common.{subst}
use Rattle.icu_table_provider.specs.well_formed.Checked.{checked_tables}
use Rattle.icu_table_provider.specs.well_formed.WellFormedTables.{IsWellFormedTables}
use Rattle.icu_table_provider.specs.declared.well_formed.checked.CheckedTables.{CheckedTables}
use Rattle.icu_rule_laws.proofs.RuleTextLemmas.{read_by_rules}
use Rattle.icu_rule_laws.proofs.texts_are_read_by_rules.Goals as goal

pub returns : goal.returns
returns c =
    read_by_rules c.elements_of_the_root_stay.ensures c.args.root.now
    (subst (λ (t : CheckedTables). IsWellFormedTables (checked_tables t)) c.tables-tables.ensures c.are_well_formed.ensures)
