-- The laws of the order of texts, as contracts name them.
use Rattle.std.specs.Prelude.{ℕ, ◌≡◌, ◌≢◌, ◌≤◌, false, List}
use Rattle.std.specs.Ordering.{ordering_reverse}
use Rattle.std.specs.declared.cmp.Ordering.TheVariants.{Less, Equal}
use Rattle.unicode_normalization.specs.Forms.{nfd}
use Rattle.icu_options.specs.declared.settings.Strength.{Strength}
use Rattle.icu_options.specs.declared.settings.Strength.TheVariants.{Primary, Secondary, Tertiary, Quaternary, Identical}
use Rattle.icu_table_provider.specs.well_formed.WellFormedTables.{IsWellFormedTables}
use Rattle.icu_element_reading.specs.TextElementLaws.{IsText}
use Rattle.icu_order_texts.specs.weighting.Collations.{Collation}
use Rattle.icu_order_texts.specs.TextOrder.{text_order, text_key}

-- ---- a total order with ties

-- Each text is equal to itself; swapped texts turn the order round; what is less than a lesser text is less; and equal
-- texts stand alike to any other
pub record IsOrderOfTexts (c : Collation) : Type 0 where
  pub reflexive : (t : List ℕ) → IsText t → text_order c t t ≡ Equal
  pub swapped : (t u : List ℕ) → IsText t → IsText u → text_order c t u ≡ ordering_reverse (text_order c u t)
  pub transitive : (t u v : List ℕ) → IsText t → IsText u → IsText v
      → text_order c t u ≡ Less → text_order c u v ≡ Less → text_order c t v ≡ Less
  pub equal : (t u v : List ℕ) → IsText t → IsText u → IsText v
      → text_order c t u ≡ Equal → text_order c t v ≡ text_order c u v

-- well-formed tables order texts, whatever the settings
abbrev pub TextsAreOrdered : Type 0
TextsAreOrdered = (c : Collation) → IsWellFormedTables c.tables → IsOrderOfTexts c

-- ---- canonical equivalence

-- two texts with one canonical decomposition (UAX #15)
abbrev pub AreEquivalent : List ℕ → List ℕ → Type 0
AreEquivalent t u = nfd t ≡ nfd u

-- canonically equivalent texts are equal
abbrev pub EquivalentTextsAreEqual : Type 0
EquivalentTextsAreEqual = (c : Collation) (t u : List ℕ) → AreEquivalent t u → text_order c t u ≡ Equal

-- canonically equivalent texts have one key
abbrev pub EquivalentTextsHaveOneKey : Type 0
EquivalentTextsHaveOneKey = (c : Collation) (t u : List ℕ) → AreEquivalent t u → text_key c t ≡ text_key c u

-- ---- strengths

-- where a strength stands among the five
abbrev pub strength_rank : Strength → ℕ
strength_rank Primary = 0
strength_rank Secondary = 1
strength_rank Tertiary = 2
strength_rank Quaternary = 3
strength_rank Identical = 4

-- a collation with another strength
abbrev pub with_strength : Collation → Strength → Collation
with_strength c s = record c { settings = record c.settings { strength = s } }

-- without a case level, Less and Greater stay when the strength is raised
abbrev pub StrengthKeepsOrder : Type 0
StrengthKeepsOrder =
    (c : Collation) (s r : Strength) (t u : List ℕ) → c.settings.case_level ≡ false
    → strength_rank s ≤ strength_rank r → text_order (with_strength c s) t u ≢ Equal
    → text_order (with_strength c r) t u ≡ text_order (with_strength c s) t u
