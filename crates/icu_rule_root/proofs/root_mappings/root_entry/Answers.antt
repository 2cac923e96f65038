-- The entry is reachable, and so is what it leads to.
use Rattle.std.proofs.Common.{sym, subst}
use Rattle.icu_table_provider.specs.well_formed.Checked.{checked_tables}
use Rattle.icu_element_matches.specs.WellFormedEntries.{IsWellFormedFrom}
use Rattle.icu_rule_root.proofs.RootEntryLemmas.{entry_well_formed}
use Rattle.icu_rule_root.proofs.root_mappings.root_entry.Goals as goal

pub returns-clause-well_formed : goal.returns-clause-well_formed
returns-clause-well_formed c =
    let all = checked_tables c.args.tables.now in
    subst (IsWellFormedFrom all.tables.root c.args.c) (sym c.stored_entry.ensures) (entry_well_formed all c.are_well_formed.ensures c.args.c c.ranges.c.0)
