-- Mappings of characters as they are stored.
use Rattle.std.specs.Prelude.{ℕ, if◌then◌else◌, List, map, filter, reverse}
use Rattle.icu_table_entries.specs.Elements.{Element}
use Rattle.icu_rule_meaning.specs.declared.symbolic.SymbolicElement.{SymbolicElement}
use Rattle.icu_rule_parser.specs.declared.statement.CharacterRange.{CharacterRange}
use Rattle.icu_rule_meaning.specs.Rules.{have_character}
use Rattle.icu_rule_meaning.specs.TailoredRoots.{RootMapping}
use Rattle.icu_rule_meaning.specs.TailoredMappings.{SymbolicMapping, has_no_context}
use Rattle.icu_rule_steps.specs.declared.symbolic_mappings.character_mapping.CharacterMapping.{CharacterMapping}

-- a mapping of the root
abbrev pub root_mapping : CharacterMapping Element → RootMapping
root_mapping m = record { prefix = m.prefix.items; suffix = m.suffix.items; elements = m.elements.items }

-- a mapping while rules are read
abbrev pub symbolic_mapping : CharacterMapping SymbolicElement → SymbolicMapping
symbolic_mapping m = record { prefix = m.prefix.items; suffix = m.suffix.items; elements = m.elements.items }

-- mappings in turn
abbrev pub symbolic_mappings : List (CharacterMapping SymbolicElement) → List SymbolicMapping
symbolic_mappings = map symbolic_mapping

-- mappings of a character, without those that have a context where one of the ranges has it
abbrev pub suppressed_at : List CharacterRange → ℕ → List SymbolicMapping → List SymbolicMapping
suppressed_at ranges c mappings = if have_character ranges c then filter has_no_context mappings else mappings

-- the mapping with this suffix behind a prefix, which is stored from its end on
abbrev pub mapping_between : List ℕ → List ℕ → List SymbolicElement → SymbolicMapping
mapping_between prefix suffix elements = record { prefix = reverse prefix; suffix = suffix; elements = elements }
