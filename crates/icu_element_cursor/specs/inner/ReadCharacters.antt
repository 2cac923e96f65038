-- The characters that stand before the text that isn't read.
use Rattle.std.specs.Prelude.{ℕ, List, [], ◌∷◌, ◌++◌, Option, Some, None, flat_map, option_to_list}
use Rattle.ucd_normal.specs.declared.forms.Form.TheVariants.{Nfd}
use Rattle.unicode_normalization.specs.Decompose.{decompose}
use Rattle.icu_element_reading.specs.TextElements.{last_two}
use Rattle.icu_element_cursor.specs.declared.last_characters.LastCharacters.{LastCharacters}

-- the last characters that were read, in the order of the text
abbrev pub facts_read : Option ℕ → Option ℕ → List ℕ
facts_read older None = []
facts_read older (Some last) = option_to_list older ++ last ∷ []

-- the last two that they decompose to, nearest first
unfoldable pub context_read : LastCharacters → List ℕ
context_read r = last_two [] (flat_map (decompose Nfd) (facts_read r.older r.last))
