use Rattle.icu_table_provider.specs.builder.Building.{built_data}
use Rattle.icu_table_provider.proofs.builder.BuildingLemmas.{set_data}
use Rattle.icu_table_provider.proofs.builder.data_builder.DataBuilder.set_entries.Goals as goal

pub returns-then-first-last : goal.returns-then-first-last
unfolding built_data
returns-then-first-last c =
    set_data (built_data c.args.self.now) c.args.self.now.characters.items c.fill.new.entries.items c.args.self.now.others c.args.first c.args.last c.args.entry
    c.fill.ensures.set c.fill.ensures.below c.fill.ensures.above
