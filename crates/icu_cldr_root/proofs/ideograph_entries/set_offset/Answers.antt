use Rattle.std.proofs.Common.{◌≡◌, ◌+◌, ◌-◌, ◌*◌, ◌<◌, ◌∙◌}
use Rattle.icu_table_provider.specs.builder.Building.{built_data}
use Rattle.icu_cldr_root.specs.RangeWeights.{ideograph_weight_in}
use Rattle.icu_cldr_root.proofs.IdeographValueLemmas.{range_set}
use Rattle.icu_cldr_root.specs.declared.ideograph_weights.WeightedRange.{WeightedRange}
use Rattle.icu_cldr_root.proofs.ideograph_entries.set_offset.Goals as goal

pub returns-clause-sets : goal.returns-clause-sets
returns-clause-sets c =
    let w : WeightedRange = c.args.weighted in
    let counted = c.offset_data-data.result in
    let primary_is : counted.primary ≡ ideograph_weight_in w w.range.first = c.offset_data-data.ensures.primary ∙ c.in-Some-Some.ensures.weight in
    let room : w.ordinal + 2 * (w.range.last - w.range.first) < 0xFE * 64516 = c.in-Some-Some.ensures'.room in
    range_set (built_data c.args.builder.now) (built_data c.add_elements.new.self) (built_data c.set_entries.new.self) counted w c.offset.result
    c.in_ok-index.index c.in_ok-index.ensures.adds c.set_entries.ensures c.in_ok-index.ensures.index c.offset.ensures.kind c.offset.ensures.index
    primary_is c.offset_data-data.ensures.base c.offset_data-data.ensures.compressible c.offset_data-data.ensures.step room
