-- The mappings of characters that are kept while rules are read.
use Rattle.std.specs.Prelude.{◌≡◌, ℕ, List, [], ◌∷◌, length, map, Option, Some, None}
use Rattle.std.specs.Global.{Vec}
use Rattle.std.specs.Ordering.{nat_cmp}
use Rattle.std.specs.BTreeMap.{get}
use Rattle.icu_rule_meaning.specs.declared.symbolic.SymbolicElement.{SymbolicElement}
use Rattle.icu_rule_meaning.specs.Steps.{TailoringState}
use Rattle.icu_rule_meaning.specs.TailoredRoots.{RootMapping}
use Rattle.icu_rule_meaning.specs.TailoredMappings.{SymbolicMapping, SymbolicMappings, mapping_of_root, with_mapping}
use Rattle.icu_rule_steps.specs.declared.symbolic_mappings.character_mapping.CharacterMapping.{CharacterMapping}
use Rattle.icu_rule_steps.specs.declared.symbolic_mappings.kept_mappings.Mappings.{Mappings}
use Rattle.icu_rule_steps.specs.symbolic_mappings.StoredMappings.{mapping_between, suppressed_at, symbolic_mappings}

-- the mappings of a character that no relation touched
abbrev pub untouched_mappings : {R : Type 0} → (R → ℕ → List RootMapping) → Mappings R → ℕ → List SymbolicMapping
untouched_mappings mappings_of m c = suppressed_at m.suppressed.items c (map mapping_of_root (mappings_of m.root.now c))

-- the mappings that a character has of its own, or else those that it had before
abbrev pub own_or : Option (Vec (CharacterMapping SymbolicElement)) → List SymbolicMapping → List SymbolicMapping
own_or (Some own) before = symbolic_mappings own.items
own_or None before = before

-- the mappings of each character
unfoldable pub mappings_in : {R : Type 0} → (R → ℕ → List RootMapping) → Mappings R → SymbolicMappings
mappings_in mappings_of m c = own_or (get nat_cmp m.touched c) (untouched_mappings mappings_of m c)

-- the step makes mappings of others
abbrev pub MakesMappings : (TailoringState → TailoringState) → SymbolicMappings → SymbolicMappings → Type 0
MakesMappings step old new = (state : TailoringState) → state.mappings ≡ old → (step state).mappings ≡ new

-- how many mappings the first character of a string has with one of this string behind a prefix
abbrev pub count_with : List ℕ → List ℕ → SymbolicMappings → ℕ
count_with prefix [] mappings = 0
count_with prefix (c ∷ suffix) mappings = length (with_mapping (mapping_between prefix suffix []) (mappings c))
