-- What a tailoring gives for the conjoining jamo, whose entries stand in a table of their own and refer to lists of the
-- root.
use Rattle.std.specs.Prelude.{ℕ, ◌≡◌, ◌+◌, ◌<◌, List, MatchBool, Option, Some, None, length, slice_index}
use Rattle.icu_table_data.specs.Data.{Data}
use Rattle.icu_table_provider.specs.builder.OwnedData.{vectors_data}
use Rattle.icu_table_mappings.specs.GrownLists.{Extends}
use Rattle.icu_table_provider.specs.Jamo.{jamo_count}
use Rattle.icu_table_provider.specs.Tables.{jamo_base}
use Rattle.icu_rule_meaning.specs.TailoredRoots.{RootMapping}
use Rattle.icu_rule_weights.specs.declared.tailoring_numbers.tailoring_numbers.TailoringNumbers.{TailoringNumbers}
use Rattle.icu_rule_steps.specs.symbolic_mappings.KeptMappings.{mappings_in}
use Rattle.icu_rule_steps.specs.symbolic_mappings.TouchedCharacters.{has_own_mappings}
use Rattle.icu_rule_steps.specs.declared.symbolic_mappings.kept_mappings.Mappings.{Mappings}
use Rattle.icu_rule_tables.specs.tailored_entries.GivenMappings.{GivesMappings}
use Rattle.icu_rule_tables.specs.declared.tailored_entries.jamo_table.JamoVectors.{JamoVectors}

-- The entry e of a jamo that has mappings of its own gives these, by lists of the root d. For each other one the entry
-- of the root's table stands.
abbrev pub IsJamoEntry : {R : Type 0} → (R → ℕ → List RootMapping) → TailoringNumbers → Mappings R → Data → ℕ → ℕ → ℕ → Type 0
IsJamoEntry mappings_of t m d c rooted e =
    MatchBool (has_own_mappings mappings_of m c) (GivesMappings t d c (mappings_in mappings_of m c) e) (e ≡ rooted)

-- A root and a table of jamo in place of others. The root has the lists of the one before, maybe with more after them,
-- and the same entries of characters. Each jamo has an entry of its mappings, or the one that it had.
pub record TailorsJamo {R : Type 0} (mappings_of : R → ℕ → List RootMapping) (t : TailoringNumbers) (m : Mappings R) (root : Data) (jamo : List ℕ) (new_root : Data) (new_jamo : List ℕ) : Type 0 where
  pub extends : Extends root new_root
  pub count : length new_jamo ≡ jamo_count
  pub entries : (k : ℕ) → k < jamo_count
      → IsJamoEntry mappings_of t m new_root (jamo_base + k) (slice_index jamo k) (slice_index new_jamo k)

-- the root that was made, or, where none was, the one before
abbrev pub root_or : Data → Option JamoVectors → Data
root_or root None = root
root_or root (Some made) = vectors_data made.root

-- the entries of jamo that were made, or, where none were, those before
abbrev pub jamo_or : List ℕ → Option JamoVectors → List ℕ
jamo_or jamo None = jamo
jamo_or jamo (Some made) = made.ce32s.items
