-- A mapping more for each suffix.
use Rattle.std.proofs.Common.{◌∷◌, ◌++◌, [], map, ap, ◌∙◌}
use Rattle.std.proofs.lemmas.List.{map-append}
use Rattle.icu_table_data.specs.Data.{Mapping}
use Rattle.icu_table_data.specs.StoredData.{data_of, found_context, found_mapping}
use Rattle.icu_element_matches.specs.WellFormedEntries.{IsWellFormedMatch}
use Rattle.icu_rule_steps.specs.symbolic_mappings.StoredMappings.{root_mapping}
use Rattle.icu_rule_root.specs.RootEntries.{entry_mapping}
use Rattle.icu_rule_root.proofs.RootEntryLemmas.{at_place, more_mapped}
use Rattle.icu_rule_root.proofs.entry_mappings.push_suffixes.Goals as goal

pub entry_mapping-requires : goal.entry_mapping-requires
entry_mapping-requires c =
    at_place (λ (m : Mapping). IsWellFormedMatch (data_of c.args.home) c.args.c m.entry) (found_context c.args.context).mappings c.loop-index.index (found_mapping c.mapping-mapping.result) c.requires c.mapping-mapping.ensures

pub loop-index-preserved : goal.loop-index-preserved
loop-index-preserved c =
    let before = map root_mapping c.loop-index.found.items in
    ap (map root_mapping) c.in_ok-push.ensures.items ∙ map-append root_mapping c.loop-index.found.items (c.in_ok-entry_mapping.field-0 ∷ [])
    ∙ ap (λ m. before ++ m ∷ []) c.in_ok-entry_mapping.ensures
    ∙ more_mapped (λ (m : Mapping). entry_mapping (data_of c.args.home) c.args.c c.args.prefix.now m.chars m.entry) (found_context c.args.context).mappings c.loop-index.index
    (found_mapping c.mapping-mapping.result) c.mapping-mapping.ensures (map root_mapping c.args.found.now.items) before c.loop-index.invariant
