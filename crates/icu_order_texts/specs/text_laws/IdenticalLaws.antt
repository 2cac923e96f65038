-- The laws of the identical level, as contracts name them.
use Rattle.std.specs.Prelude.{ℕ, ◌≡◌, ◌↔◌, List, map}
use Rattle.std.specs.declared.cmp.Ordering.{Ordering}
use Rattle.std.specs.declared.cmp.Ordering.TheVariants.{Equal}
use Rattle.unicode_normalization.specs.Forms.{nfd}
use Rattle.icu_options.specs.declared.settings.Strength.TheVariants.{Identical}
use Rattle.icu_order_levels.specs.Identical.{identical_level, identical_rank}
use Rattle.icu_order_levels.specs.Keys.{Determines}
use Rattle.icu_order_levels.specs.ListOrder.{list_order}
use Rattle.icu_table_provider.specs.well_formed.WellFormedTables.{IsWellFormedTables}
use Rattle.icu_element_reading.specs.TextElementLaws.{IsText}
use Rattle.icu_order_texts.specs.weighting.Collations.{Collation}
use Rattle.icu_order_texts.specs.TextOrder.{text_order, text_key}
use Rattle.icu_order_texts.specs.text_laws.OrderLaws.{AreEquivalent}

-- the dictionary order of two decomposed texts, U+FFFE lowest
abbrev pub decomposed_order : List ℕ → List ℕ → Ordering
decomposed_order t u = list_order (map identical_rank (nfd t)) (map identical_rank (nfd u))

-- the bytes that the identical level has for two texts order as the decomposed texts do, whatever follows them in a key
abbrev pub IdenticalLevelsKeepOrder : Type 0
IdenticalLevelsKeepOrder =
    (t u : List ℕ) → IsText t → IsText u → Determines (identical_level (nfd t)) (identical_level (nfd u)) (decomposed_order t u)

-- they are the same bytes exactly for texts with one canonical decomposition
abbrev pub IdenticalLevelsDetermineTexts : Type 0
IdenticalLevelsDetermineTexts =
    (t u : List ℕ) → IsText t → IsText u → (identical_level (nfd t) ≡ identical_level (nfd u)) ↔ AreEquivalent t u

-- at the strength Identical those texts alone are equal
abbrev pub IdenticalOrderDeterminesTexts : Type 0
IdenticalOrderDeterminesTexts =
    (c : Collation) → c.settings.strength ≡ Identical
    → (t u : List ℕ) → (text_order c t u ≡ Equal) ↔ AreEquivalent t u

-- and they alone have one key
abbrev pub IdenticalKeysDetermineTexts : Type 0
IdenticalKeysDetermineTexts =
    (c : Collation) → IsWellFormedTables c.tables → c.settings.strength ≡ Identical
    → (t u : List ℕ) → IsText t → IsText u → (text_key c t ≡ text_key c u) ↔ AreEquivalent t u
