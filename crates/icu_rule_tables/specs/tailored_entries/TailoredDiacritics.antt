-- What a tailoring gives for the marks whose secondary weights stand in a table of their own (UTS #35 part 5,
-- "Collation Tailorings").
use Rattle.std.specs.Prelude.{ℕ, ◌≡◌, ◌+◌, ◌<◌, ◌≤◌, List, [], ◌∷◌, MatchBool, length, slice_index}
use Rattle.icu_table_entries.specs.Elements.{of_secondary}
use Rattle.icu_table_data.specs.DataConditions.{diacritics_base}
use Rattle.icu_rule_meaning.specs.declared.symbolic.SymbolicElement.{SymbolicElement}
use Rattle.icu_rule_meaning.specs.TailoredMappings.{SymbolicMapping}
use Rattle.icu_rule_meaning.specs.TailoredRoots.{RootMapping}
use Rattle.icu_rule_weights.specs.tailoring_numbers.NumberedElements.{numbered_element}
use Rattle.icu_rule_weights.specs.declared.tailoring_numbers.tailoring_numbers.TailoringNumbers.{TailoringNumbers}
use Rattle.icu_rule_steps.specs.symbolic_mappings.KeptMappings.{mappings_in}
use Rattle.icu_rule_steps.specs.symbolic_mappings.TouchedCharacters.{touched_in}
use Rattle.icu_rule_steps.specs.declared.symbolic_mappings.kept_mappings.Mappings.{Mappings}

-- there is one mapping, and all it has is, with numbers, this secondary weight
pub record HaveSecondaryAlone (t : TailoringNumbers) (mappings : List SymbolicMapping) (secondary : ℕ) : Type 0 where
  pub mapping : SymbolicMapping
  pub element : SymbolicElement
  pub one : mappings ≡ mapping ∷ []
  pub elements : mapping.elements ≡ element ∷ []
  pub weight : numbered_element t element ≡ of_secondary secondary

-- A mark that a relation touched has the secondary weight of its mappings, which give nothing else. Each other one has
-- that of the root.
abbrev pub TailorsDiacritic : {R : Type 0} → (R → ℕ → List RootMapping) → TailoringNumbers → Mappings R → ℕ → ℕ → ℕ → Type 0
TailorsDiacritic mappings_of t m c rooted secondary =
    MatchBool (touched_in m c) (HaveSecondaryAlone t (mappings_in mappings_of m c) secondary) (secondary ≡ rooted)

-- the first marks of a table, so many, have their secondary weights
abbrev pub TailorDiacriticsBelow : {R : Type 0} → (R → ℕ → List RootMapping) → TailoringNumbers → Mappings R → List ℕ → ℕ → List ℕ → Type 0
TailorDiacriticsBelow mappings_of t m root n own = (k : ℕ) → k < n
    → TailorsDiacritic mappings_of t m (diacritics_base + k) (slice_index root k) (slice_index own k)

-- A table of secondary weights in place of the root's: it has no more marks, and each has its weight.
pub record TailorsDiacritics {R : Type 0} (mappings_of : R → ℕ → List RootMapping) (t : TailoringNumbers) (m : Mappings R) (root own : List ℕ) : Type 0 where
  pub count : length own ≤ length root
  pub weights : TailorDiacriticsBelow mappings_of t m root (length own) own
