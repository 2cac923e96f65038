use Rattle.icu_table_provider.specs.builder.Building.{built_data}
use Rattle.icu_table_provider.proofs.builder.BuildingLemmas.{new_data}
use Rattle.icu_table_provider.proofs.builder.data_builder.DataBuilder.new.Goals as goal

pub returns : goal.returns
unfolding built_data
returns c =
    new_data c.args.others c.in_ok-filled.field-0.items c.new.result.items c.new-2.result.items c.new-3.result.items c.new-4.result.items c.new-5.result.items
    c.in_ok-filled.ensures.entries c.new.ensures.items c.new-2.ensures.items c.new-3.ensures.items
