-- A table of what is known of characters.
use Rattle.std.specs.Prelude.{Bool, true, false}
use Rattle.icu_element_reading.specs.TextElements.{Reading}
use Rattle.icu_element_facts.specs.KeptChars.{AreFactsFrom}
use Rattle.icu_element_facts.specs.CharWords.{AreWords}
use Rattle.icu_element_facts.specs.KeptPairs.{ArePairs}
use Rattle.icu_element_facts.specs.declared.char_words.Kept.{Kept}
use Rattle.icu_element_facts.specs.declared.char_words.Kept.TheVariants.{Facts}
use Rattle.icu_element_facts.specs.declared.facts_table.KeptFacts.{KeptFacts}

-- facts are kept
abbrev pub has_facts : Kept → Bool
has_facts (Facts l) = true
has_facts _ = false

-- all that is kept is so
pub record AreFacts (reading : Reading) (t : KeptFacts) : Type 0 where
  pub latin : AreFactsFrom reading 0 t.latin.items
  pub jamo : AreFactsFrom reading 0x1100 t.jamo.items
  pub words : AreWords reading t.words
  pub pairs : ArePairs reading t.pairs
