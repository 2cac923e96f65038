-- Characters that stay where they stand when a text is decomposed.
use Rattle.std.specs.Prelude.{◌≡◌, ℕ, true, List, flat_map}
use Rattle.ucd_normal.specs.declared.forms.Form.TheVariants.{Nfd}
use Rattle.unicode_normalization.specs.Decompose.{decompose}
use Rattle.icu_element_reading.specs.boundaries.Alone.{stays_first}

-- no mark that the text begins with goes before a mark that stands before it
abbrev pub EndsMarks : List ℕ → Type 0
EndsMarks text = (m : ℕ) → stays_first m (flat_map (decompose Nfd) text) ≡ true
