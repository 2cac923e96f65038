-- Mappings more for each prefix.
use Rattle.std.proofs.Common.{map, ◌∙◌}
use Rattle.icu_table_data.specs.Data.{Mapping}
use Rattle.icu_table_data.specs.StoredData.{data_of, found_context, found_mapping}
use Rattle.icu_rule_steps.specs.symbolic_mappings.StoredMappings.{root_mapping}
use Rattle.icu_rule_root.specs.RootEntries.{prefixed_mappings}
use Rattle.icu_rule_root.specs.inner.LedEntries.{IsWellFormedContraction}
use Rattle.icu_rule_root.proofs.RootEntryLemmas.{at_place, more_joined}
use Rattle.icu_rule_root.proofs.entry_mappings.push_prefixes.Goals as goal

pub push_prefixed-requires : goal.push_prefixed-requires
push_prefixed-requires c =
    at_place (λ (m : Mapping). IsWellFormedContraction (data_of c.args.home) c.args.c m.entry) (found_context c.args.context).mappings c.loop-index.index (found_mapping c.mapping-mapping.result) c.requires c.mapping-mapping.ensures

pub loop-index-preserved : goal.loop-index-preserved
loop-index-preserved c =
    c.in_ok-push_prefixed.ensures
    ∙ more_joined (λ (m : Mapping). prefixed_mappings (data_of c.args.home) c.args.c m.chars m.entry) (found_context c.args.context).mappings c.loop-index.index
    (found_mapping c.mapping-mapping.result) c.mapping-mapping.ensures (map root_mapping c.args.found.now.items) (map root_mapping c.loop-index.found.items) c.loop-index.invariant
