-- The theorems on the elements of all texts, as contracts name them.
use Rattle.std.specs.Prelude.{ℕ, Bool, List, IsTrue}
use Rattle.std.specs.Char.{IsScalar}
use Rattle.std.specs.List.{AllByRecursion}
use Rattle.unicode_normalization.specs.Forms.{nfd}
use Rattle.icu_table_entries.specs.Elements.{Element}
use Rattle.icu_element_reading.specs.TextElements.{Reading, elements_of}
use Rattle.icu_table_provider.specs.ReachableTables.{HasDigits}
use Rattle.icu_element_reading.specs.TextParts.{IsDecomposedText, HasParts, EachPasses, PartsPass, IsTextElement}

-- a text of scalar values
abbrev pub IsText : List ℕ → Type 0
IsText cs = AllByRecursion IsScalar cs

-- canonical decomposition gives scalar values, and none of the marks that it replaces
abbrev pub TextsDecompose : Type 0
TextsDecompose = (cs : List ℕ) → IsText cs → IsDecomposedText (nfd cs)

-- where the parts pass a test on lists of elements, and lists that pass do so one after another, the elements of each
-- decomposed text pass
abbrev pub PartsMakeTexts : Type 0
PartsMakeTexts =
    (holds : List Element → Bool) (reading : Reading) → HasParts (λ es. IsTrue (holds es)) reading
    → (text : List ℕ) → IsDecomposedText text → IsTrue (holds (elements_of reading text))

-- a test that each element of each part passes is passed by each element of each decomposed text
abbrev pub ElementsPass : Type 0
ElementsPass =
    (test : Element → Bool) (reading : Reading) → PartsPass test reading
    → (text : List ℕ) → IsDecomposedText text → EachPasses test (elements_of reading text)

-- each element of each text is one of a reachable entry, a diacritic or a number
abbrev pub ElementsHaveSources : Type 0
ElementsHaveSources =
    (reading : Reading) → HasDigits reading.tables
    → (cs : List ℕ) → IsText cs → AllByRecursion (IsTextElement reading) (elements_of reading (nfd cs))
