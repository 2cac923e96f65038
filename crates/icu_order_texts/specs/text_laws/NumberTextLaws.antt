-- The laws of texts that are numbers, as contracts name them.
use Rattle.std.specs.Prelude.{ℕ, ◌≡◌, ◌≢◌, true, List}
use Rattle.std.specs.Ordering.{nat_cmp}
use Rattle.icu_options.specs.declared.settings.Strength.TheVariants.{Identical}
use Rattle.icu_order_levels.specs.Numbers.{value_of}
use Rattle.icu_table_provider.specs.well_formed.WellFormedTables.{IsWellFormedTables}
use Rattle.icu_element_reading.specs.TextElementLaws.{IsText}
use Rattle.icu_order_texts.specs.weighting.Collations.{Collation}
use Rattle.icu_order_texts.specs.TextOrder.{text_order}
use Rattle.icu_order_texts.specs.text_laws.NumberTexts.{IsNumberText, IsDigitText, digits_in}

-- where digits are read as numbers, a text of digits alone is read as the number of those digits
abbrev pub DigitTextsAreNumbers : Type 0
DigitTextsAreNumbers =
    (c : Collation) → IsWellFormedTables c.tables → c.settings.numeric ≡ true
    → (text : List ℕ) → IsText text → IsDigitText c.tables text → IsNumberText c text (digits_in c.tables text)

-- two texts, each read as one number, are ordered by the values, whatever the settings below the identical level
abbrev pub NumberTextsOrderByValue : Type 0
NumberTextsOrderByValue =
    (c : Collation) → IsWellFormedTables c.tables → c.settings.strength ≢ Identical
    → (t u ds es : List ℕ) → IsNumberText c t ds → IsNumberText c u es
    → text_order c t u ≡ nat_cmp (value_of ds) (value_of es)

-- and so they are at the identical level too, where the values differ
abbrev pub DifferentNumbersOrderByValue : Type 0
DifferentNumbersOrderByValue =
    (c : Collation) → IsWellFormedTables c.tables → (t u ds es : List ℕ)
    → IsNumberText c t ds → IsNumberText c u es → value_of ds ≢ value_of es
    → text_order c t u ≡ nat_cmp (value_of ds) (value_of es)
