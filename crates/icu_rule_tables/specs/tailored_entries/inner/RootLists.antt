-- A root while lists are added to it.
use Rattle.std.specs.Prelude.{ℕ, ◌≡◌, ◌+◌, ◌<◌, List, ◌++◌, slice_index}
use Rattle.std.specs.List.{All}
use Rattle.icu_table_data.specs.Data.{Context, Data}
use Rattle.icu_table_provider.specs.Tables.{jamo_base}
use Rattle.icu_rule_meaning.specs.TailoredRoots.{RootMapping}
use Rattle.icu_rule_weights.specs.declared.tailoring_numbers.tailoring_numbers.TailoringNumbers.{TailoringNumbers}
use Rattle.icu_rule_steps.specs.symbolic_mappings.KeptMappings.{mappings_in}
use Rattle.icu_rule_steps.specs.symbolic_mappings.StoredMappings.{symbolic_mappings}
use Rattle.icu_rule_steps.specs.symbolic_mappings.TouchedCharacters.{have_touched, touched_in}
use Rattle.icu_rule_steps.specs.declared.symbolic_mappings.character_mapping.TouchedCharacter.{TouchedCharacter}
use Rattle.icu_rule_steps.specs.declared.symbolic_mappings.kept_mappings.Mappings.{Mappings}
use Rattle.icu_rule_tables.specs.tailored_entries.TailoredJamo.{IsJamoEntry}

-- a table with more contexts
abbrev pub and_contexts : Data → List Context → Data
and_contexts d xs = record d { contexts = d.contexts ++ xs }

-- the table has the lists of the root
pub record HasListsOf (root d : Data) : Type 0 where
  pub elements : d.elements ≡ root.elements
  pub entries : d.entries ≡ root.entries
  pub contexts : d.contexts ≡ root.contexts

-- a table with the root's entries of characters
abbrev pub with_value_of : Data → Data → Data
with_value_of root d = record d { value = root.value }

-- the characters that relations touched are listed, each with its mappings
pub record ListsTouched {R : Type 0} (mappings_of : R → ℕ → List RootMapping) (m : Mappings R) (listed : List TouchedCharacter) : Type 0 where
  pub mappings : All (λ (t : TouchedCharacter). mappings_in mappings_of m t.character ≡ symbolic_mappings t.mappings.now) listed
  pub all : (c : ℕ) → touched_in m c ≡ have_touched listed c

-- the first jamo of the table have their entries
abbrev pub HasJamoEntries : {R : Type 0} → (R → ℕ → List RootMapping) → TailoringNumbers → Mappings R → Data → List ℕ → ℕ → List ℕ → Type 0
HasJamoEntries mappings_of t m d jamo n own = (k : ℕ) → k < n
    → IsJamoEntry mappings_of t m d (jamo_base + k) (slice_index jamo k) (slice_index own k)
