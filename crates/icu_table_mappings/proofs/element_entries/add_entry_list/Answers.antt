use Rattle.icu_table_mappings.proofs.GrownListLemmas.{extends_by_entries}
use Rattle.icu_table_mappings.proofs.element_entries.add_entry_list.Goals as goal

pub returns-clause-extends : goal.returns-clause-extends
returns-clause-extends c = extends_by_entries _ _ _ c.in_ok-add_entries.ensures.adds
