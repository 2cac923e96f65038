use Rattle.icu_table_provider.specs.builder.Building.{built_data}
use Rattle.icu_cldr_root.proofs.IdeographValueLemmas.{unmapped_kept}
use Rattle.icu_cldr_root.proofs.TakenLemmas.{ok_always}
use Rattle.icu_cldr_root.proofs.collected.Collected.add_mapping.Goals as goal

pub returns-clause-unmapped : goal.returns-clause-unmapped
returns-clause-unmapped c =
    ok_always c.add_entry.result
    (λ has. unmapped_kept (built_data c.args.self.now.builder) (built_data c.entry_of_elements.new.builder) c.args.self.now.ideographs
    c.in_ok-entry.ensures.extends has)
