use Rattle.icu_table_provider.specs.builder.Building.{built_data}
use Rattle.icu_cldr_root.proofs.IdeographValueLemmas.{lists_set}
use Rattle.icu_cldr_root.proofs.ideograph_entries.set_one.Goals as goal

pub returns-clause-lists : goal.returns-clause-lists
returns-clause-lists c = lists_set (built_data c.args.builder.now) (built_data c.set_entry.new.self) _ _ _ c.set_entry.ensures
