-- An entry that gives mappings says just these (UTS #35 part 5, "Context-Sensitive Mappings").
use Rattle.std.specs.Prelude.{ℕ, ◌≡◌, true, List, map}
use Rattle.std.specs.List.{list_any}
use Rattle.icu_table_data.specs.Data.{Data}
use Rattle.icu_table_provider.specs.well_formed.WellFormedTables.{HasAscendingContexts}
use Rattle.icu_table_provider.specs.Tables.{Tables}
use Rattle.icu_rule_root.specs.RootEntries.{root_mappings_of}
use Rattle.icu_rule_meaning.specs.Rules.{Rule}
use Rattle.icu_rule_meaning.specs.Steps.{tailoring_of}
use Rattle.icu_rule_meaning.specs.TailoredRoots.{Root}
use Rattle.icu_rule_meaning.specs.TailoredMappings.{SymbolicMapping, has_no_context, mapping_of_root, root_mappings}
use Rattle.icu_rule_weights.specs.tailoring_numbers.NumberedElements.{numbered_element}
use Rattle.icu_rule_weights.specs.declared.tailoring_numbers.tailoring_numbers.TailoringNumbers.{TailoringNumbers}
use Rattle.icu_rule_tables.specs.tailored_entries.GivenMappings.{GivesMappings}
use Rattle.icu_rule_laws.specs.mapped_texts.MappedTexts.{SaysMappings}

-- one of the mappings is of the character alone
abbrev pub HasMappingAlone : List SymbolicMapping → Type 0
HasMappingAlone mappings = list_any has_no_context mappings ≡ true

-- in a table whose contexts ascend an entry that gives mappings, one of them of the character alone, says just these
abbrev pub GivenMappingsAreSaid : Type 0
GivenMappingsAreSaid = (t : TailoringNumbers) (d : Data) (c : ℕ) (mappings : List SymbolicMapping) (e : ℕ)
    → HasAscendingContexts d → HasMappingAlone mappings → GivesMappings t d c mappings e
    → SaysMappings (numbered_element t) d c e mappings

-- the root of tables has a mapping of each character alone
abbrev pub RootsHaveMappingsAlone : Type 0
RootsHaveMappingsAlone = (tables : Tables) (c : ℕ) → HasMappingAlone (map mapping_of_root (root_mappings_of tables c))

-- where a root has a mapping of each character alone, so do rules over it
abbrev pub RulesKeepMappingsAlone : Type 0
RulesKeepMappingsAlone = (root : Root) (rules : List Rule) → ((c : ℕ) → HasMappingAlone (root_mappings root c))
    → (c : ℕ) → HasMappingAlone ((tailoring_of root rules).mappings c)
